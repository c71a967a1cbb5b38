-- The ways of the tests, what a call has that they let pass, and the laws that go call by call: so a new call is a line of each, here.

-- The ways of the tests and of a refusal, over plain values.
pub mod Tests
-- What a call has that the table doesn't refuse: a pool with its device, or rows and a device to mount on, and text for paths.
pub mod Passed
-- A call that the table does not refuse is the inner one; a mount that is done leaves its pool.
pub mod Inward
-- The table's column of paths, call by call.
pub mod OnPath
-- The number of every call is one of 01's, so it is an answer's: call by call, by the law that stands beside each.
pub mod Numbers
-- The proofs of what specs/Promises.antt states of every call at once.
pub mod Promises
-- No call that passes the tests comes to 1 or 2, call by call.
pub mod Heard
-- What every call comes to: a number, and the numbers of so many rows, call by call.
pub mod Ends
-- A refusal is given before any write, call by call: `a_refusal_changes_nothing`.
pub mod Refusals
-- What may become of a row, so that no stale handle comes back, and so that each live one stays;
pub mod Fates
-- what each inner call makes of the rows;
pub mod InnerOnward
-- and so of every call.
pub mod Onward
-- Which inner calls leave each live handle live, and which make a handle stale.
pub mod InnerSteady
-- Opens and handles: each live one stays, and one that is told is live.
pub mod Opens
