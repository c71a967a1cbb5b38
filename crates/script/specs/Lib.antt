-- What a script puts out.

-- A script, run over a small pool of its own: docs/EXPORTS.md, "pool_script".
pub mod Script
