-- Laws about the definitions, which the proofs of this crate cite.
-- The bytes of a report's data after the basic ones.
pub mod Layouts
-- The clauses of the reader's contract, from its answer.
pub mod ReportChecked
