-- Laws about the definitions, which the proofs of this crate and of the crates above cite.
-- Parts put through a cursor one after another.
pub mod Parts
-- A command's frame is its parts, joined.
pub mod CommandFrame
