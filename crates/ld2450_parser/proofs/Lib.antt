-- The framing of the module's stream: its open strings and whole frames, which tests decide.
pub mod Frames
-- Its decoding and its counting.
pub mod Decoding
-- What a byte does at each place of a frame.
pub mod Places
-- At a place in range, a byte does what the scanner's step does.
pub mod Follows
-- A place, reset if it is out of range.
pub mod Ranges
-- The run of a slice, from any of its bytes on.
pub mod Runs
-- A byte fed to any parser does what the scanner's step does.
pub mod OneByte
-- A slice fed does what its bytes do, fed one by one.
pub mod Slices
-- The parser is a lawful engine of the framing.
pub mod Engines
-- From demand 3: frames back to back are delivered.
pub mod Sent
-- Demand 3 from any parser.
pub mod Demand
-- What the pieces of the stream are.
pub mod Pieces
-- What a parser's type says of it; so demand 3 holds.
pub mod Known
