-- A call (Calls), clauses and the end (Facts), a record behind `&mut` (Record), a local array (Array), a slice that is passed on (Again, Lend).

-- A call in a walk. calls_to     of a function that meets its contract: in front stand the tokens and what the arguments own.
pub mod Calls
-- Contracts of two clauses, each a fact, and how a walk ends. needs_both   the `requires` of a function.
pub mod Facts
-- A record behind a `&mut`, as steps of the calculus.
pub mod Record
-- A local array that is lent as a slice for a call, and comes back, as steps of the calculus. lent_array.
pub mod Array
-- A slice `&κ mut [T]` that its holder lends on for the lifetime κ' of a call.
pub mod Again
-- A lent slice that is passed on, as steps of a walk. lend, back       as `&mut`: a lifetime ν is made and the slice is lent for it.
pub mod Lend
