-- The call of an operation, and its answer.

-- One operation of a script: the call that docs/EXPORTS.md's table has for its code, and its answer. s is the script, l what is lent.
pub mod Operate
