-- Contents of proofs/, beside a folder for each function: what its proofs cite, and laws that crates above cite.

-- The walks of `dir_find`, `missing` and `register_ancestors`: along the rows, and from ancestor to ancestor up a spelling.
pub mod Walks
-- A row that is written: its spelling into the zeros of a free row, and then its length in front.
pub mod Puts
-- `register_path`: where the path is there its ancestors remain, else it is the first row more.
pub mod Firsts
-- Directory rows and their buffer: the view of a flat form, the part that a row's spelling stands in, and one row more.
pub mod InBuffer
-- Lists of paths: whether a path is one of them, those that are missing, and two lists joined.
pub mod Joined
-- What registering does to a pool's directories.
pub mod Registering
