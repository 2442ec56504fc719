-- Laws about the definitions, which the proofs of this crate and of the crates above cite.
-- An answer shows the truth value that chose it.
pub mod Conditions
-- The headers and tails of the two kinds.
pub mod Families
-- Numbers on the wire: all their bytes are there, or some are missing.
pub mod Numbers
-- Counters that stop at a maximum.
pub mod Counters
-- Two byte strings are the same, or differ.
pub mod Equality
-- Copies of a byte string into another, by how much of it fits.
pub mod Prefixes
-- Strings of bytes, and the bytes of a number.
pub mod Bytes
-- A frame put together and taken apart.
pub mod Framed
