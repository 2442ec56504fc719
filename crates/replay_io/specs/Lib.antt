pub mod Argument
pub mod Command
pub mod Script
pub mod Line
pub mod Case
pub mod Answers
