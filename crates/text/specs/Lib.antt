-- Contents of specs/: the definitions that the contracts cite, their examples, and theorems.

-- Text (01, Text): UTF-8 by RFC 3629, section 4.
pub mod Text
-- The greatest byte of a run, and what it tells of the run.
pub mod Greatest
