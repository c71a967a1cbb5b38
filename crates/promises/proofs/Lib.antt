-- The argument, in its order.

-- What a mount leaves, by what the inner one came to;
pub mod Mounting
-- and all of it through the public face.
pub mod Face
-- Every call has an end that the contract allows.
pub mod Total
-- Demand 3.
pub mod Demand3
-- A pool stays a pool.
pub mod Stays
-- Table P: P1, P4 and P5, which a call on a pool decides;
pub mod Calls
-- P2, P3 and P8, which the headers that a mount finds decide;
pub mod Edges
-- P6 and P7, which the counter decides, and the table.
pub mod Table
-- The incident, end to end.
pub mod Incident
-- All that is promised.
pub mod Promises
