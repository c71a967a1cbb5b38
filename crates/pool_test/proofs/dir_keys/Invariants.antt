-- The invariant: the keys below j are written.
use Rattle.std.proofs.Common.{◌≡◌, ℕ, ◌<◌, get_or}
use Rattle.path.specs.Path.{text_key}
use Rattle.dir_rows.specs.Rows.{dir_at}
use Rattle.pool_test.proofs.dir_keys.Given as goal

abbrev pub invariant-loop-j : goal.invariant-loop-j
invariant-loop-j l = (i : ℕ) → i < l.j → get_or l.keys i 0 ≡ text_key (dir_at l.dirs i)
