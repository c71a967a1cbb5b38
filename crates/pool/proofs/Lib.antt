-- Contents of proofs/, beside a folder for each function: what its proofs cite, and laws that crates above cite.

-- What the ways through the entry come to, and those of its helpers.
pub mod Ways
