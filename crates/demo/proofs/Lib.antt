-- Contents of proofs/, beside a folder for each function: what its proofs cite, and laws that crates above cite.

-- Of a block that claims: its path lies in it.
pub mod Claims
