-- Contents of specs/: the definitions that the contracts cite, their examples, and theorems.

-- The format of a script, in the order of docs/EXPORTS.md.
pub mod Format
-- What holds of runs, operations and setups that were read.
pub mod Reading
