-- Contents of proofs/, beside a folder for each function: what its proofs cite, and laws that crates above cite.

-- The ways out of the exported calls that their definitions, opened, do not show, and the count of searches.
pub mod Ways
