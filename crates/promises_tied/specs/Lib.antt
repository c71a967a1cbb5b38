-- Nothing is tied by eye: what the contracts are, as the checker has them.

-- "Any two outcomes it allows are the same", of a contract.
pub mod Decided
-- The contract of `pool::call`.
pub mod Face
-- The contract of `calls::make`.
pub mod Flat
-- The contract of each slot call.
pub mod SlotCalls
-- The contract of each exported call.
pub mod Exports
