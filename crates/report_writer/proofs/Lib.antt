-- Laws about the definitions, which the proofs of this crate cite.
-- The tests of counts, and which reports can be written.
pub mod Counts
-- Bounds from the types of a report's fields.
pub mod Typed
-- A counted prefix padded with zeros.
pub mod Padding
-- The data of a report, put part by part.
pub mod ReportData
-- Report data that pass the checks.
pub mod Shapes
-- The engineering block, written and read.
pub mod Blocks
-- The nine basic bytes, written and read.
pub mod Basics
-- A written report is read back, and a read one, within limits, is written again.
pub mod RoundTrip
