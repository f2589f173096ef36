pub mod MonthStarts
pub mod Rows
pub mod Numbers
pub mod Parts
