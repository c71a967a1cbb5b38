-- Contents of proofs/, beside a folder for each function: what its proofs cite, and laws that crates above cite.

-- The loops of the order: a half of what is left is set aside at each look, and each element goes to its place among those behind it.
pub mod Turns
