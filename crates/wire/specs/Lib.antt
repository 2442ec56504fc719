pub mod Family
pub mod Gate
pub mod Number
pub mod Counter
pub mod Bytes
pub mod Prefix
pub mod Equal
