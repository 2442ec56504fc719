-- What is emitted if a frame ended, and if none did.
pub mod Emitted
-- A byte fed does what the scanner's step does.
pub mod Feeding
-- A slice fed does what its bytes do, fed one by one.
pub mod Slicing
-- The parser is a lawful engine of the link's framing.
pub mod Engines
-- Demand 3.
pub mod Demand
-- 53 bytes are not enough.
pub mod Sooner
-- A parser's type ensures what demand 3 asks.
pub mod Known
