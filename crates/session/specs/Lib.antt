pub mod Machine
pub mod Returned
pub mod Session
pub mod Parts
pub mod Claims
