pub mod Candidate
pub mod Claims
pub mod Read
pub mod CommandFrame
