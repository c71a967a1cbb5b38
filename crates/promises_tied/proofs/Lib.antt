-- The proofs of what specs/ state, under the same names.

-- Two facts that hold at once, and what follows from them.
pub mod Facts
-- The statements of specs/Face.antt,
pub mod Face
-- of specs/Flat.antt,
pub mod Flat
-- of specs/SlotCalls.antt,
pub mod SlotCalls
-- and of specs/Exports.antt.
pub mod Exports
