-- Contents of proofs/, beside a folder for each function: what its proofs cite, and laws that crates above cite.

-- Equality of bytes: as the library tests it, and eight of them read as a number.
pub mod Bytes
-- Laws of the walk from the front.
pub mod Walks
-- Laws of the walk from the back.
pub mod Backs
-- Laws of writing the normal spelling into a buffer, component by component, and of its length.
pub mod Writes
-- Laws of the parent and of the walk up through the ancestors.
pub mod Parents
-- Laws of the order of normal spellings, along a walk of both.
pub mod Orders
-- Laws of the key: it is that of the last component, and reads its last eight bytes.
pub mod Keys
-- The loop of `is_normal`: a turn takes one byte from the front of what is left; two bytes are left at its end.
pub mod Slashes
-- What holds of the ancestors of a path, which are its proper fronts in normal spelling, and of its parent, which is the nearest.
pub mod Ancestors
-- The examples of 01, "Path equality", and of the documentation of std::path::Components. 97 is `a`, 98 is `b`.
pub mod Examples
-- How parts and components come apart and go together: the laws from which the theorems and the functions' proofs are made.
pub mod Parts
-- What holds of paths, for the crates above: equality, normal spelling, order and key.
pub mod Theorems
-- A normal spelling, told from its bytes: a text is its parts, each but the first behind a slash.
pub mod SpellingLaws
