-- The invariant: the keys below i are written.
use Rattle.std.proofs.Common.{◌≡◌, ℕ, ◌<◌, get_or}
use Rattle.path.specs.Path.{key_of}
use Rattle.slot_rows.specs.Rows.{at, path_of}
use Rattle.slot_rows.specs.Held.{held}
use Rattle.pool_test.proofs.row_keys.Given as goal

abbrev pub invariant-loop-i : goal.invariant-loop-i
invariant-loop-i l = (j : ℕ) → j < l.i → get_or l.keys j 0 ≡ key_of (path_of (at (held l.rows) j))
