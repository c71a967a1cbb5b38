-- Contents of specs/: the definitions that the contracts cite, their examples, and theorems.

-- A pool (01, "A pool"): what it holds, what is always true of that, and how it lies in the lent buffers.
pub mod State
-- 01, "Numbers that come back": 0 is a call that was done, and 1 to 13 are the refusals.
pub mod Numbers
-- The free queue and the counter: what the calls make of a state, and of its record.
pub mod Queue
-- Pools and their buffers: the view of a flat form, what a pool's buffers are, and what the queue's calls make of them.
pub mod InBuffers
-- A changed row, and other directories: what the calls make of a state, when it is valid again, and how it lies in the buffers.
pub mod Changes
-- A pool for a reader who thinks in buffers: plain facts of cells and counts that follow from `IsPool`.
pub mod Reads
