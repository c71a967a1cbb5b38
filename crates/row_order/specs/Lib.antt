-- Contents of specs/: the definitions that the contracts cite, their examples, and theorems.

-- Paths in the order of listings and dumps: 01, "each in byte order of normal spelling".
pub mod Spans
-- Where an element goes in a list that is in order, and that the insertion sort puts it there.
pub mod Risen
-- What the crates above use of the order: it is total, the sort keeps what it is given, and a list goes through it as its paths do.
pub mod InOrder
-- Parts of rows, picked by number: the loops that pick them, and what the parts that were picked spell.
pub mod Picks
-- The parts of all directories: how many they are, that they lie in the rows, and what they spell, by row and in order.
pub mod AllDirs
-- What the order means: rows whose paths differ come out rising, and they are the rows that went in.
pub mod Theorems
-- The order in small: 46 is `.`, 47 is `/`, 97 is `a`, 98 is `b`.
pub mod Examples
