-- Contents of proofs/, beside a folder for each function: what its proofs cite, and laws that crates above cite.

-- A row's numbers as its fields, and the store of two of them.
pub mod Fields
-- Turns of the search for a path's row: what is found from row i on, counted from i, is what is found.
pub mod Search
-- What `find` means: the row it names holds the path and is the first that does; equal paths are found alike.
pub mod Finding
-- Rows and their buffers: the view of a flat form, what a store to one row does, what stands in a row's place, and more rows.
pub mod InBuffers
-- Examples of rows and of their flat form (01, A pool): 97 is `a`, 98 is `b`, 46 is `.` and 47 is `/`.
pub mod Examples
