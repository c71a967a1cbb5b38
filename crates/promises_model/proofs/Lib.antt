-- The argument, in its order:
--   what holds after each slot (Invariant), and that it is the winner rule (Winner);
--   what one slot and one release change (Moves), and so what a pool keeps whatever fails (Pool);
--   the directories (Dirs), and that a mount in two parts is one mount (Split);
--   how many lose and how far the counter goes (Count), and so that the parts are accepted (Accept);
--   what the device says afterwards (Card), and so what the next mount gives (Again), and which slots are free (Queue).
-- Theorem and Valid put these together to what specs/Promise.antt and specs/Valid.antt state.

-- What a list's elements are after one more, and after one is put back to the default.
pub mod Rows
-- The invariant of a scan: the bound rows are the holders (`Holders`).
pub mod Invariant
-- The winner rule: the holders of the first n headers are their best claims (`Best`), and every claimed path has one.
pub mod Winner
-- What one slot changes: rows, queue and losers, whichever way its header goes (`step_moves`).
pub mod Moves
-- The invariant of a pool, whatever fails (`Fit`): a step keeps it, a release keeps it, and so do adopt and mount.
pub mod Pool
-- Directories: `register` joins two lists, and a mount's directories are the ancestors of its claims.
pub mod Dirs
-- Two pools of the same slots over the same headers have the same files and directories.
pub mod Split
-- Each claim binds one more row or makes one loser (`survey_balance`).
pub mod Count
-- The parts of an accepted mount are accepted (refusals 12, 8 and 9).
pub mod Accept
-- What the device says of the slots held, whatever fails (`Card`): a header is as it was, or claims nothing and its slot holds nothing.
pub mod Card
-- Mounting again, whatever failed: the same files and directories, by the holders of the headers as they are now (`now_holders`).
pub mod Again
-- The free slots where no release fails: each slot has its place (`Calm`), so the queue holds exactly the slots that are not bound.
pub mod Queue
-- The promises of specs/Promise.antt, each from the law that carries it.
pub mod Theorem
-- Adopt keeps a pool a pool, whatever state it is called in.
pub mod Valid
-- Laws of the model that a loop over rows, over slots or over losers needs.
pub mod Loops
