-- Laws about the tables, which the proofs of this crate and of the crates above cite.
-- A test that passes at each number below a bound.
pub mod Below
-- A table that passes the test of its rule, which is computed once over the whole of it, has the rule at each entry.
pub mod Rules
-- A class is at most 16, and the byte that is due has the class of its matching state.
pub mod Due
-- Tables that hold the classes and the next states match the headers and the tails, by families and bytes.
pub mod Matched
