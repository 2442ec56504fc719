-- What a division of a stream is, in reading order. The theory of divisions is in proofs/.

-- Pieces of a stream.
pub mod Piece
-- The division of a stream into pieces.
pub mod Division
-- What a division adds up to.
pub mod Tally
