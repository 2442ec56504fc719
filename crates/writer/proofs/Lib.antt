-- Laws about the definitions, which the proofs of this crate and of the crates above cite.
-- A put of bytes that fit, and of bytes that do not.
pub mod PutFits
-- Puts one after the other.
pub mod Chain
-- What a writer answers and leaves, and the cause of each number.
pub mod Writers
-- A frame put into a buffer.
pub mod Frames
-- The round trip in every buffer, from a value and its frame.
pub mod RoundTrip
