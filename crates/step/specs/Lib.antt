pub mod Step
pub mod Slice
pub mod Phase
