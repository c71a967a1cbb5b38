-- The ways of a call.

-- The two ways of a call, over plain values: refused by the table, or made.
pub mod Ways
