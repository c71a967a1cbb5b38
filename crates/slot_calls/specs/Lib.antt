-- Contents of specs/: the definitions that the contracts cite, their examples, and theorems.

-- The slot calls of sah.rs as public calls: what each comes to, for any input.
pub mod SlotCalls
-- Calls that antt computes: each refusal, and calls that answer 0, on which the theorems of SlotOutcomes speak.
pub mod Examples
-- What holds of the slot calls, as statements.
pub mod SlotOutcomes
