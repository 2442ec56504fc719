pub mod Table
pub mod Matching
