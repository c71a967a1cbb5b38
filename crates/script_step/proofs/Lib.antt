-- The rows of the table of codes, and the answer.

-- The call that a code stands for, row by row of the table; and the answer.
pub mod Ways
