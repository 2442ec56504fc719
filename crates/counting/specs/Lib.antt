pub mod Counts
pub mod Reached
pub mod Counted
