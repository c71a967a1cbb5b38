-- Contents of specs/: the definitions that the contracts cite, their examples, and theorems.

-- The calls by path: open_read, and 01's "Open for writing" and "Remove", with their refusals in 01's order.
pub mod Files
