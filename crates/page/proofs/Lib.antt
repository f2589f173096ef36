pub mod Reading
pub mod Accepted
pub mod Once
pub mod Single
pub mod Worked
pub mod LineNumbers
pub mod Spans
pub mod Arcs
