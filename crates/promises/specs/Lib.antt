-- What is promised of the pool. To be read: Promises, and of the others as much as its words need.

-- What is promised of the pool: the one page to read.
pub mod Promises
-- The words for calls through the pool's public face, `pool::call`.
pub mod Face
-- Demand 3 as the customer says it, of the public call.
pub mod Demand3
-- "A pool stays a pool", on its device.
pub mod Stays
-- Table P, both sides of each edge.
pub mod Edges
-- The section with the basement that nobody built, end to end.
pub mod Incident
