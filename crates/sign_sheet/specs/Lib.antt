pub mod SignSheets
