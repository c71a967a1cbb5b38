-- Contents of proofs/, beside a folder for each function: what its proofs cite, and laws that crates above cite.

-- What the loops do: what is written so far, with what is left laid over the rest, is the whole.
pub mod Turns
-- Whole rows of numbers and 66 records: the records that are stored from the numbers, and the numbers that are loaded from the records.
pub mod Spread
