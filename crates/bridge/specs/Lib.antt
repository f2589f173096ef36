pub mod Bytes
pub mod Answers
pub mod Bodies
pub mod Elements
pub mod Numbers
pub mod Iso
pub mod Months
