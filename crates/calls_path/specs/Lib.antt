-- The result of a call that tells nothing.

-- The result of an inner call that tells nothing.
pub mod Quiet
