pub mod Claims
pub mod Command
pub mod Setting
