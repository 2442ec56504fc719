pub mod Draw
pub mod Load
pub mod Answer
pub mod Claims
pub mod Counts
