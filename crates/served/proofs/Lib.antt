-- Contents of proofs/, beside a folder for each function: what its proofs cite, and laws that crates above cite.

-- The ways out of what answers a request, where the definitions, opened, do not show them; and how long a body is that is whole.
pub mod Ways
