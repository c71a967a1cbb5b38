-- Contents of proofs/, beside a folder for each function: what its proofs cite, and laws that crates above cite.

-- What the library's `contains`, `==`, `all` and `any` answer, in the words of the contracts.
pub mod Turns
-- What the filters rest on: paths of different keys are different, so a row whose key none before it has is the first of its path.
pub mod Filters
-- Directories judged from their last component: cut at a slash, a text is normal exactly if both of its pieces are.
pub mod Upright
-- The test says exactly what a pool is.
pub mod Exactly
-- Buffers that pass the tests of sizes, rest and fit are the flat form of their view, and the other way round.
pub mod FlatForms
