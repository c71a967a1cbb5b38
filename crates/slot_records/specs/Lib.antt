-- Contents of specs/: the definitions that the contracts cite, their examples, and theorems.

-- Slot rows as records (01, A pool: "the slot rows are a lent run of records, one row a slot"), and the flat numbers of crate slot_rows.
pub mod Records
-- Records and flat numbers are the same: there and back, and row by row.
pub mod SameNumbers
-- Numbers that are made records for a call, and put back: at most 66 whole rows of them, two more than a pool has.
pub mod Whole
-- A bound row of a file of 7 bytes whose path has 3, clean, under generation 5, and an unbound row of generation 2: records and numbers.
pub mod Examples
