-- The argument, in its order. What every call makes of the rows is in calls_gate (Fates, InnerOnward, Onward, InnerSteady, Opens).

-- The same of the public calls, and so the statements.
pub mod Theorems
-- What a handle is good for: a stale one gets 6 from every call on it, and an open that is done tells a live one.
pub mod HandleCalls
-- For each statement an example in which its premises hold.
pub mod Witness
