-- Laws about the definitions, which the proofs of this crate cite.
-- Command frames, by the envelope's answer.
pub mod CommandFrames
-- The candidate for the frame of a command that the module takes is that command.
pub mod Candidates
-- Whether a command encodes to the bytes.
pub mod Encodes
-- What the reader answers, that there is no choice, and the cause of each number.
pub mod CommandRead
-- The encoder and the reader agree.
pub mod RoundTrip
-- A `SetMaxGates` with a farthest gate of 0 or 1 gets 5.
pub mod Near
