-- The count is what the searches made so far come to: `hits_start`, then `hits_all` or `hits_fail`.
use Rattle.std.proofs.Common.{◌≡◌}
use Rattle.pool_state.specs.State.{bufs, view}
use Rattle.harness.specs.Calls.{hits}
use Rattle.harness.proofs.lookups.Given as goal

abbrev pub invariant-loop-i : goal.invariant-loop-i
invariant-loop-i l = l.found ≡ hits l.path (view (bufs l.fn.pool l.nums l.names l.dirs)) l.i
