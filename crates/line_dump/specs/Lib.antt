-- Contents of specs/: the definitions that the contracts cite, their examples, and theorems.

-- What `dump` prints: 01, "The command program". 102 is `f`, 100 is `d`, 32 is a space, and 10 ends a line.
pub mod Dump
