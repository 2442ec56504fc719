-- Laws about the definitions, which the proofs of this crate cite.
-- Bytes put one after the other.
pub mod Puts
-- The decimal digits of a number.
pub mod Decimals
-- Numbers put one after the other.
pub mod Numbers
-- Numbers of sixteen bits with a sign.
pub mod Signs
-- The answers of a run.
pub mod Runs
-- Cases in a buffer.
pub mod Cases
