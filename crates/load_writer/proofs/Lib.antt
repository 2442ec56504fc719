-- Laws about the definitions, which the proofs of this crate cite.
-- One draw more, and the byte that it adds.
pub mod Drawing
-- Draws are linear over bits, so pieces of one byte never write a header.
pub mod Linear
-- The piece that a draw chooses.
pub mod Choosing
-- The pieces that are laid down in so many bytes.
pub mod Fitting
-- A buffer that is filled piece by piece.
pub mod Filling
-- Where a load stops.
pub mod Stopping
-- What is answered and left.
pub mod Answered
-- The frames of a load, whole and decoding.
pub mod Frames
-- What a string closes, and what that adds up to.
pub mod Scanning
-- What is pending between two pieces, and what a byte does to it.
pub mod Pending
-- What a parser counts in a load.
pub mod Counting
-- Draws and loads, computed.
pub mod Printed
