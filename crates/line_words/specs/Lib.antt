-- Contents of specs/: the definitions that the contracts cite, their examples, and theorems.

-- The words of a line: 01, "The command program". 32 is a space.
pub mod Words
-- What a line asks for: 01, "The command program".
pub mod Commands
-- 01's own lines, and lines of no form. 97 is `a`, 98 is `b`, 99 is `c`, 47 is `/`, 32 is a space.
pub mod Examples
