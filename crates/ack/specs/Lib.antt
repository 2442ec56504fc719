pub mod Ack
pub mod Awaited
pub mod Span
