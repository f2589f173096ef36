pub mod TrueLongitudes
pub mod Elements
pub mod OnDays
pub mod Parts
