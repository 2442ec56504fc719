pub mod Frame
pub mod RoundTrip
