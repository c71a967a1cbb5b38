-- Contents of specs/: the definitions that the contracts cite, their examples, and theorems.

-- Requests for the exported calls, and their answers.
pub mod Requests
-- What holds of every answer.
pub mod Answers
