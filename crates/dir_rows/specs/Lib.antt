-- Contents of specs/: the definitions that the contracts cite, their examples, and theorems.

-- The directories of a pool: 01, "A pool".
pub mod Dirs
-- Directory rows in a lent buffer: 482 bytes each, the length of the spelling in two bytes, little-endian, and the spelling.
pub mod Rows
-- Directories in small: 47 is `/`, 97 is `a`, 98 is `b`, 99 is `c`.
pub mod Examples
