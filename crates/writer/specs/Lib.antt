pub mod Written
pub mod RoundTrip
pub mod Put
