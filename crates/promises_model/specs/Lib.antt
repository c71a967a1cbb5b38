-- To be read in this order: the functions (Model), the rule for each path (Best), what is promised (Promise), that a pool stays a pool
-- (Valid); then laws for those who write loops (Loops, in proofs/), and examples (Examples).

-- The pool's mount, adopt and release as functions on states, in the order and the words of 01, "Mount, adopt" and "Release".
pub mod Model
-- Which claim a path goes to, from the customer's words alone.
pub mod Best
-- What mount and adopt promise.
pub mod Promise
-- A pool, as far as the model has it (01, "A pool: ..".
pub mod Valid
-- A kit of numbers, which shows that the laws can be met, and mounts over it that compute.
pub mod Examples
