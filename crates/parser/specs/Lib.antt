pub mod Feed
pub mod Engine
pub mod Claims
