pub mod Names
pub mod Page
