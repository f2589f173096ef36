pub mod Calls
pub mod HostQuery
