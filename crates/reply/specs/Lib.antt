pub mod Reply
pub mod Replies
pub mod ParametersHead
pub mod Parameters
