-- The meanings of the theory of parsers, in reading order. The laws about them are in proofs/.

-- Runs of calls on any machine.
pub mod Runs
-- Calls on a parser, and the stretches between resets.
pub mod Calls
-- A parser as an engine.
pub mod Engine
-- What a list of calls must do: demand 3.
pub mod Fulfilled
-- Which call delivered a frame.
pub mod Delivered
-- The claims about calls and their stretches.
pub mod Claims
