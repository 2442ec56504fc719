-- Laws about the definitions, which the proofs of the crates above cite.
-- A step leaves a well-formed scan.
pub mod StepOrder
-- What a byte does in a state that is known.
pub mod Turns
-- The run of a slice, byte by byte and part by part.
pub mod Runs
-- When a step follows the scanner's: a lemma for each thing that a byte can do.
pub mod Follow
-- The steps in a header and in the length follow it.
pub mod HeadSteps
-- So do those among the data bytes and in a tail.
pub mod BodySteps
-- So does every step of a well-formed scan.
pub mod Steps
-- The pending bytes of a well-formed scan are open and not whole.
pub mod Waiting
