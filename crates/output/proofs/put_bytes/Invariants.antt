-- What was put out so far, and then the bytes still to be put out, make the whole run.
use Rattle.std.proofs.Common.{◌≡◌, ◌+◌, drop}
use Rattle.output.specs.Writer.{shown, pours}
use Rattle.output.proofs.put_bytes.Given as goal

abbrev pub invariant-loop-x : goal.invariant-loop-x
invariant-loop-x l = (l.a ≡ l.at + l.x-index) × (pours (drop l.x-index l.src) (shown l.out l.a) ≡ pours l.src (shown l.initial.out l.at))
