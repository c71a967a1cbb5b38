-- Contents of specs/: the definitions that the contracts cite, their examples, and theorems.

-- The pool with its device, which the calls of pool.rs work on, and all lent buffers.
pub mod World
-- The steps that the pool's calls share, over a header written and flushed (`put_m` of crate device_lent).
pub mod Steps
-- What a call comes to: its number (01, "Numbers that come back"), its further results, and what it leaves behind.
pub mod Outcome
