-- The answers and their numbers; what comes back from a call; the table of what each call is tested for, and the tests; what the sixteen
-- calls come to, and what is promised of all of them.

-- The answers of the public calls, and 01's number of each ("Numbers that come back"); 0 is a call that was done.
pub mod Answers
-- What comes back from a call: its answer, what it tells, what is left of all that was lent, and of the buffer.
pub mod Replies
-- 01's "Order: 1, 2, 3, then these": what a call refuses before anything of its own, for every call in one place.
pub mod Table
-- The sixteen public calls as one function.
pub mod Calls
-- What is promised of every call at once.
pub mod Promises
-- What a refusal leaves of everything lent: 01's column "Left behind".
pub mod Refusals
