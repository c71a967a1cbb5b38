-- Contents of specs/: the definitions that the contracts cite, their examples, and theorems.

-- The tables that a script ends with, in the order of docs/EXPORTS.md.
pub mod Tables
