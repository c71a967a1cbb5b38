-- Contents of proofs/, beside a folder for each function: what its proofs cite, and laws that crates above cite.

-- The turns of the reader's and the writer's loop.
pub mod Turns
-- Laws of little-endian numbers, over the width.
pub mod Fields
-- Laws of a part of a slice that is lent and comes back, and of `laid`, which says what the whole then is.
pub mod Parts
