-- Contents of specs/: the definitions that the contracts cite, their examples, and theorems.

-- Directories: create_dir_all, exists and metadata "as in the Rust.
pub mod Folders
