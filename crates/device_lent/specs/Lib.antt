-- Contents of specs/: the definitions that the contracts cite, their examples, and theorems.

-- A header written and flushed: what the one writer of headers comes to, and "it stops at the first failure" (01, "Release").
pub mod Put
