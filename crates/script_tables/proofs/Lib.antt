-- Contents of proofs/, beside a folder for each function: what its proofs cite, and laws that crates above cite.

-- The turns of the loops that write, and how far each goes.
pub mod Turns
