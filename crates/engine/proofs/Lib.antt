-- The laws of the theory of parsers. Each file uses only files before it.

-- A run of two lists of calls, one after the other.
pub mod Runs
-- The stretches, and which of them a call lies in.
pub mod Stretches
-- What each call must do so that every list of calls is right.
pub mod Lawful
-- A byte delivers the frame that it ends, if that decodes.
pub mod Deliveries
-- Answers and counts after a pending string.
pub mod OneByte
-- Each call on a lawful engine is right by itself.
pub mod Moves
-- At most one frame ends at a place, so only one answer and one count are right.
pub mod Sure
-- A call that is right after what is pending is right in its stretch.
pub mod Rights
-- A lawful engine fulfils demand 3.
pub mod Fulfilled
-- Every byte taken is accounted for.
pub mod Accounts
-- Two engines that fulfil the claim do the same.
pub mod Same
-- What calls without a reset took and delivered.
pub mod Taken
-- A call that took a frame's last byte took none after it.
pub mod LastByte
-- That call delivered the frame, and the other calls the other frames.
pub mod Delivered
-- An empty slice takes no byte, and delivers nothing.
pub mod Empty
-- Bytes fed one by one are one stretch.
pub mod Feeds
-- A run that is stored and resumed does what one run does.
pub mod Resumed
-- A property that each byte fed keeps is kept up to a frame's end.
pub mod Until
-- A slice call that first resets a state out of range.
pub mod Still
-- The claims about a lawful engine, together.
pub mod Claimed
