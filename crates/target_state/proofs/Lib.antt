-- Laws about the definitions, which the proofs of this crate and of the crates above cite.
-- A target state and its byte.
pub mod States
