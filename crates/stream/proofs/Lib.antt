-- Tests that compute, for open strings and for whole frames.
pub mod Scan
-- The beginning of an open string is open.
pub mod Laws
-- What the tests say of a string after a header.
pub mod Headers
-- What the tests say of a string that begins with a word.
pub mod Words
-- What one more byte makes of a string that waits.
pub mod Steps
-- The test for open strings agrees with document 01.
pub mod Opens
-- The test for whole frames does too.
pub mod Wholes
-- The LD2410's framing, which the tests decide.
pub mod Link
-- The link's decoding and counting.
pub mod Decoding
-- What a whole frame delivers.
pub mod Delivered
-- Which bytes begin a frame, and that a whole frame is its data, framed.
pub mod Begins
-- Where a broken start ends.
pub mod Traps
-- Bytes F4 in a row.
pub mod Repeated
-- Pending strings that are empty or lack only bytes of a tail.
pub mod Idle
-- Clean frames, byte by byte.
pub mod Clean
-- How many data bytes a pending string still takes.
pub mod Owing
-- Clean frames that begin late enough are found, and delivered if they decode.
pub mod Recovery
-- So of the frames sent, all such are delivered.
pub mod Regained
-- One byte less is not enough.
pub mod Sooner
