-- Contents of specs/: the definitions that the contracts cite, their examples, and theorems.

-- Little-endian fields, and a part laid into a list.
pub mod Le
