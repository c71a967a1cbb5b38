-- Contents of specs/: the definitions that the contracts cite, their examples, and theorems.

-- Mount and adopt: 01, "Mount, adopt" and "Numbers that come back".
pub mod Mount
