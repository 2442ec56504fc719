pub mod Signed
pub mod Target
pub mod Frame
pub mod Bytes
pub mod RoundTrip
pub mod Claims
