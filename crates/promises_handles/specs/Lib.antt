-- What becomes of handles: the statements, and examples in which their premises hold.

-- What becomes of handles under the public calls: of a live one, and of a stale one.
pub mod Handles
