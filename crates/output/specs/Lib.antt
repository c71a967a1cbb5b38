-- Contents of specs/: the definitions that the contracts cite, their examples, and theorems.

-- Output that goes to a lent buffer as far as that reaches.
pub mod Writer
