-- Contents of proofs/, beside a folder for each function: what its proofs cite, and laws that crates above cite.

-- Laws of output: what is put out in parts is put out as a whole.
pub mod InParts
