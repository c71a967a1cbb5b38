-- What a call through records comes to.

-- What a call through records comes to: the rows that it left are the front of the array, so the numbers that are put back are theirs.
pub mod Went
