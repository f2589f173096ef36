pub mod SpanLine
pub mod Marked
