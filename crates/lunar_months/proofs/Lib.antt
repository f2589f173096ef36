pub mod Finding
pub mod Latest
pub mod Answers
pub mod Made
pub mod Laws
pub mod Worked
