pub mod Look
pub mod Days
pub mod Search
pub mod Parts
pub mod Spans
