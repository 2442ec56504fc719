pub mod Block
pub mod Gates
