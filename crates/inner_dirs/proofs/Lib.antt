-- Contents of proofs/, beside a folder for each function: what its proofs cite, and laws that crates above cite.

-- The ways out of create_dir_all, exists and metadata, and of one slot of sync_dir, over plain values.
pub mod Ways
-- The loop of sync_dir: what is left to sync, from here, comes to the whole.
pub mod Syncing
-- "A pool stays a pool" after create_dir_all and sync_dir, and the numbers that the calls come to.
pub mod Stays
-- Directories in small: 46 is `.`, 47 is `/`, 97 is `a`, 98 is `b`, 99 is `c`.
pub mod Examples
