pub mod MonthSheets
