-- Contents of specs/: the definitions that the contracts cite, their examples, and theorems.

-- Slot rows (01, A pool): what a row says, the row that holds a path, and how rows lie in the lent buffers.
pub mod Rows
-- The rows that a function is lent to read, as one value.
pub mod Held
