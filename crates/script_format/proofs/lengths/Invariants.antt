-- The lengths so far are those that stand in the script.
use Rattle.std.proofs.Common.{◌≡◌, ℕ, ◌<◌, get_or}
use Rattle.script_format.specs.Format.{length_at}
use Rattle.script_format.proofs.lengths.Given as goal

abbrev pub invariant-loop-k : goal.invariant-loop-k
invariant-loop-k l = (j : ℕ) → j < l.k → get_or l.phys j 0 ≡ length_at l.s l.i j
