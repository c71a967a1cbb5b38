-- Contents of specs/: the definitions that the contracts cite, and theorems.

-- read_dir (01, "The calls" and "Numbers that come back").
pub mod Listing
-- The same over parts of the lent rows, as the code has them: which are picked, how many bytes their entries take, and these entries.
pub mod Parts
-- What a listing is: its files rise in byte order of normal spelling, and so do its directories.
pub mod Theorems
