-- Contents of specs/: the definitions that the contracts cite, their examples, and theorems.

-- Paths as Rust's std::path has them on a platform with `/`: 01, "Path equality".
pub mod Path
-- The places of a walk along a spelling: what the functions that find and compare components say of their answers.
pub mod Walk
-- Normal spelling told from the bytes of a text: 01, "Path equality". 47 is `/` and 46 is `.`.
pub mod Spelling
