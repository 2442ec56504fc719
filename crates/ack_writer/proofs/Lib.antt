-- Laws about the definitions, which the proofs of this crate cite.
-- The data of an acknowledgement: put, read, and made again.
pub mod AckData
-- A written value is read back, and a read one, within limits, is written again.
pub mod RoundTrip
