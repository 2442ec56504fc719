pub mod Report
pub mod Check
pub mod Basic
pub mod Layout
pub mod LayoutCheck
pub mod Claims
