-- The three commands that a session treats specially.
pub mod Which
-- What the calls do under the machine's premises.
pub mod Calls
-- The calls move as the machine does, and the machine leaves no choice.
pub mod Moved
-- A call is the one move of the machine, and each number of `send` has its cause.
pub mod Caused
-- A `SetMaxGates` in a session: when it gets 2.
pub mod Farthest
-- `EnableConfig` opens a session and `EndConfig` closes it.
pub mod Exchanges
-- What `send` has to show, from its answer and its buffer.
pub mod SendTests
