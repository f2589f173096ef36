pub mod AlmanacSheets
