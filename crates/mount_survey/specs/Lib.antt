-- Contents of specs/: the definitions that the contracts cite, their examples, and theorems.

-- What a slot's header says to a mount, and the reading of all headers before anything else: 01, "Mount, adopt".
pub mod Heads
-- Who holds which path once the headers are read: 01, "Mount, adopt".
pub mod Survey
-- Headers as rows of the table, and rows as claims: how a survey lies in the lent buffers. 01, "Mount, adopt".
pub mod Claims
-- What a survey comes to, read off the rows in which the claims are staged.
pub mod Staged
-- 01's rules of mount and adopt on small cases: 97 is `a`, 98 is `b`, 47 is `/`.
pub mod Examples
