-- Contents of specs/: the definitions that the contracts cite, their examples, and theorems.

-- A number as text. 48 is `0`.
pub mod Decimal
-- The answers of the command program, each a line: 01, "The command program". 32 is a space, and 10 ends a line.
pub mod Answers
