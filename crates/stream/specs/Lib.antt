-- Which strings are open, and which are whole frames.
pub mod Open
-- What a whole frame delivers, and what the counters count.
pub mod Deliver
-- The link as demand 3 speaks of it.
pub mod Protocol
-- How soon frames are found again after a disturbance.
pub mod Recovery
-- The claims.
pub mod Claims
-- Which data lengths are in range.
pub mod Length
