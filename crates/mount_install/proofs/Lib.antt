-- Contents of proofs/, beside a folder for each function: what its proofs cite, and laws that crates above cite.

-- The loops over the staged rows: each keeps "the whole answer is the answer on what is left".
pub mod Walks
-- Staged rows: registering and queueing, over lists.
pub mod StagedRows
