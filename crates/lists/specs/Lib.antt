-- Contents of specs/: the definitions that the contracts cite, their examples, and theorems.

-- Tests of two parts: what `a && b` and `a || b` come to.
pub mod Bools
-- Fronts and parts of lists: what `take` and `drop` make of one another, and of zeros.
pub mod Fronts
-- A run of numbers that a function is lent, as a contract may take it: at entry and at exit, as one value.
pub mod Lends
-- Runs of indices: what is tested, sought or listed over i, i + 1, .., and the laws by which a loop goes through one.
pub mod Runs
-- Equality of lists as a test, lifted from a test on their elements: bytes, and then lists of bytes, are two uses of it.
pub mod Same
-- Lists without repetition: one more element; no longer than a list that has all of theirs.
pub mod Distinct
-- Lists in flat form: blocks of one width behind each other, zero filled to a length.
pub mod Blocks
-- Blocks of zeros behind the last one of a flat form are its fill: a list may grow by them, and shrink again, where it lies.
pub mod Zeros
-- A loop that stores a run of elements, by turns: what is still to be stored makes the whole of it.
pub mod Stores
-- Three-way comparison: of numbers, its lexicographic lift to lists, and the laws of a total order.
pub mod Order
-- Insertion sort by a strict order, and the step that selection takes through it.
pub mod Sort
-- What the insertion sort means: it is ordered, it has the same elements, and its kth element is the one with k below it.
pub mod Sorted
