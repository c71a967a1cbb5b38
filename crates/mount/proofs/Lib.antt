-- Contents of proofs/, beside a folder for each function: what its proofs cite, and laws that crates above cite.

-- The loop of `drain`: what is left to release, from here, comes to the whole.
pub mod Draining
-- What adopt makes of what its parts came to: one law a way out, over plain values.
pub mod Adopting
-- Mount is adopt on the pool of no slots: its buffers, and the two ways out.
pub mod Mounting
-- The number that a mount or an adoption comes to is one of 01's.
pub mod Numbers
-- "the result of every mount and adopt is a pool, whatever failed": releases in a row, the pool that a survey accepted, adopt and mount.
pub mod Stays
-- A survey of a pool keeps what makes a pool, and its losers stand apart: they are slots of the pool, neither bound nor free.
pub mod SurveyKeeps
