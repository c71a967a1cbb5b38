-- What was put out so far, and then the digits still to be put out, make the whole number.
use Rattle.std.proofs.Common.{◌≡◌, ◌+◌, ◌-◌}
use Rattle.le.specs.Le.{le}
use Rattle.output.specs.Writer.{shown, pours}
use Rattle.output.proofs.put_le.Given as goal

abbrev pub invariant-loop : goal.invariant-loop
invariant-loop l = (l.a ≡ l.at + l.counter) × (pours (le (l.w - l.counter) l.v) (shown l.out l.a) ≡ pours (le l.w l.x) (shown l.initial.out l.at))
