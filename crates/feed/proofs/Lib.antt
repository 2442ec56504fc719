-- Laws that the proofs of this crate cite.
-- Where steps lead that store nothing.
pub mod Leads
-- The parts of a run in which nothing is stored.
pub mod Phases
-- The data part of a run.
pub mod Copies
-- Where the tables lead is where the step leads.
pub mod States
-- The run of a slice of one byte.
pub mod Singles
