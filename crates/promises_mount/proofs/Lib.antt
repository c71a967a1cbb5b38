-- The argument, in its order.

-- What a release makes of the headers on the device: other slots keep theirs, the slot's own is free or as it was.
pub mod Free
-- And so the real pool as a kit of the model;
pub mod Kit
-- the survey and the releases are the model's,
pub mod Bridge
-- and so are the adoption
pub mod Adopt
-- and, with the model's statements in the customer's words,
pub mod Words
-- the mount;
pub mod Mount
-- where the plan has no byte 1 or 2, nothing is touched and nothing fails;
pub mod Faultless
-- where no two slots claim one path, none is released;
pub mod Alone
-- the next mount, under any plan;
pub mod Again
-- and so demand 3.
pub mod Theorem
-- What the survey of a first mount comes to.
pub mod Surveys
