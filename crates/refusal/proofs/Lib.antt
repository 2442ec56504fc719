-- Laws about the definitions, which the proofs of this crate and of the crates above cite.
-- The first check that fails, and its refusal.
pub mod Checks
