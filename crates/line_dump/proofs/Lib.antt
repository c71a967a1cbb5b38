-- Contents of proofs/, beside a folder for each function: what its proofs cite, and laws that crates above cite.

-- The spans that a dump sorts: how many they are, where they lie, and what lines they stand for.
pub mod Spans
-- The ways of a dump, over plain values: what each writer puts out, and how long it is.
pub mod Ways
