-- Contents of proofs/, beside a folder for each function: what its proofs cite.

-- What is refused, way by way, and what a call that is let through may rely on; over plain values.
pub mod Ways
-- The statements of specs/SlotOutcomes.antt.
pub mod Outcomes
