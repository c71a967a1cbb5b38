-- Contents of specs/: the definitions that the contracts cite, their examples, and theorems.

-- The format of the exported calls: what each answers, and what the buffer that was lent to it then holds.
pub mod Calls
-- What holds of the exported calls.
pub mod Outcomes
