-- The theory of divisions. Each file uses only files above it.

-- What a division spells and adds up to.
pub mod Division
-- Where frames end in a list of pieces.
pub mod Ends
-- A framing: which strings are open, and which are whole frames, with the laws that make a division unique.
pub mod Framing
-- Framings that are given by tests.
pub mod Tests
-- What the theory needs of counters.
pub mod Counting
-- What one more byte does to a division.
pub mod Scanner
-- The four things that a byte can do.
pub mod View
-- The scanner's pieces are the division, and the only one.
pub mod Scanned
-- A division with more bytes after it.
pub mod Append
-- What a string closes, and what is pending after it.
pub mod Rest
-- Where the scanner ends a frame, a whole piece of every division ends.
pub mod Events
-- How often a stream can break.
pub mod Resyncs
-- Frames of a fixed length.
pub mod Fixed
-- Which strings fill a pattern of given bytes and of places for any byte.
pub mod Pattern
