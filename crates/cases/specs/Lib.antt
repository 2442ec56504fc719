-- Bytes to try, in reading order.

-- What a row says, and when it holds.
pub mod Walk
pub mod Row
-- Document 01's streams.
pub mod Streams
-- Runs of calls that deliver, or stop counting.
pub mod Runs
-- Document 01's commands, written and read.
pub mod Commands
-- Document 02's sessions.
pub mod Talks
-- Document 02's loads.
pub mod Loads
-- Document 02's table engine.
pub mod Walks
-- The theorem.
pub mod Claims
