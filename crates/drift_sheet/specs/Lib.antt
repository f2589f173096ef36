pub mod DriftSheets
