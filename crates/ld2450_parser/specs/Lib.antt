-- The meanings of this crate, in reading order.

-- The module's stream: which strings are open and whole, what is delivered and counted.
pub mod Stream
-- What the calls do to a parser.
pub mod Feed
-- The parser as an engine.
pub mod Engine
-- Demand 3.
pub mod Claims
-- What the pieces of the stream are, and an example of each.
pub mod Pieces
