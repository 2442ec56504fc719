-- Two functions that agree over a list agree at each of its elements.
pub mod Agree
-- The rows of the table engine hold.
pub mod Requests
-- The rows hold: each table is computed once.
pub mod Rows
