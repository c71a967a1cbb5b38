-- Contents of specs/: the definitions that the contracts cite, their examples, and theorems.

-- What a line of the command program comes to: 01, "The command program".
pub mod Lines
