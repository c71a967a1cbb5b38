-- Contents of specs/: the definitions that the contracts cite, their examples, and theorems.

-- The calls on a handle, which is a slot and a generation: file_len, and 01's "Read", "Write", "set_len" and "sync".
pub mod Handles
-- The second liveness look (02, CR 12): the calls with it, and that they are the calls without it.
pub mod Again
