-- The numbers of the specification that more than one crate needs.
pub mod Limits
