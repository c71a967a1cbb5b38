-- Contents of proofs/, beside a folder for each function: what its proofs cite, and laws that crates above cite.

-- A turn of the loop of `fnv1a32`: the next byte goes into the state.
pub mod Turn
-- Laws of FNV-1a, at any prime and any width.
pub mod AnyWidth
