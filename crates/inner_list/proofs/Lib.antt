-- Contents of proofs/, beside a folder for each function: what its proofs cite, and laws that crates above cite.

-- Each answer's law: what the parts are, the run of entries, and the ways out of read_dir.
pub mod Ways
-- The ways out of read_dir: the parts that were picked stand for the listing of the pool's state.
pub mod Outs
-- Listings in small: 46 is `.`, 47 is `/`, 97 is `a`, 98 is `b`, 99 is `c`, 100 is `d`.
pub mod Examples
