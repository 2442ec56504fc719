pub mod RoundTrip
pub mod Writable
pub mod Data
