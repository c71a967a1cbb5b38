-- The turns of the loop over the operations, and what comes behind it.

-- The turns of the loop over the operations, and what comes behind it.
pub mod Ways
