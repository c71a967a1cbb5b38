-- Contents of specs/: the definitions that the contracts cite, their examples, and theorems.

-- What the program keeps from line to line.
pub mod Slots
-- No answer is longer than the room that is kept for it.
pub mod Room
