-- Laws about the definitions, which the proofs of this crate and of the crates above cite.
-- The frames of commands: how long they are, and when they are encodable.
pub mod Frames
-- Which farthest gates, gates and sensitivities the module takes.
pub mod Farthest
-- What the encoder answers and leaves.
pub mod Encoding
