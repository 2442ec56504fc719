-- A slice feed does what its first bytes do, fed one by one.
pub mod Slices
-- Bytes fed in two parts.
pub mod Appended
-- The invariant of the loop of `feed_all`.
pub mod Rest
-- Which parsers bytes lead to.
pub mod Reached
-- The numbers of a parser that was fed.
pub mod Line
