-- Laws about the definitions, which the proofs of this crate and of the crates above cite.
-- The answer to the envelope, by its checks, and what it means.
pub mod Opened
-- A frame passes the checks of the envelope, and bytes that pass them are a frame.
pub mod Framed
-- The reader's answer, from its checks.
pub mod FrameChecked
-- The strings for which the reader gives a frame, and which frame.
pub mod FrameRead
