-- Demand 3 of the inner mount and adoption.

-- The words of demand 3.
pub mod Words
-- Demand 3, about the inner calls `mount_m` and `adopt_m`, which the contracts of mount and adopt cite.
pub mod Mounts
