-- Laws about the definitions, which the proofs of this crate cite.
-- A two-byte number and the signed number that it says.
pub mod Signs
-- A target read from its eight bytes, and which targets can be written.
pub mod TargetBytes
-- Frames, and what the reader gives for them.
pub mod Frames
-- The examples of request 6.
pub mod Printed
-- What the types of a target's fields say.
pub mod Typed
-- A target is read back from its bytes, and these are written back.
pub mod TargetRound
-- The same for three targets and their frame.
pub mod FrameRound
-- The frame of three targets, put part by part.
pub mod FrameWritten
-- The writer's test fails exactly in request 6's two causes.
pub mod Unsayable
