-- Laws about the definitions, which the proofs of the crates above cite.
-- The gate counts of an engineering block: when the block fits.
pub mod Counts
