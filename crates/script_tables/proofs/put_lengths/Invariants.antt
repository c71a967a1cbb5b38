-- What was put out so far, and then the lengths that are left, make the whole.
use Rattle.std.proofs.Common.{◌≡◌, ◌*◌, ◌+◌, ◌≤◌, drop}
use Rattle.limits.specs.Limits.{row_width}
use Rattle.lists.specs.Blocks.{cat}
use Rattle.le.specs.Le.{le}
use Rattle.output.specs.Writer.{shown, pours}
use Rattle.script_tables.proofs.put_lengths.Given as goal

abbrev pub invariant-loop-x : goal.invariant-loop-x
invariant-loop-x l =
    (l.a ≤ l.at + l.x-index * row_width) × (pours (cat (le 4) (drop l.x-index l.phys)) (shown l.out l.a) ≡ pours (cat (le 4) l.phys) (shown l.initial.out l.at))
