-- What was put out so far, and then the runs that are left, make the whole.
use Rattle.std.proofs.Common.{◌≡◌, ℕ, ◌*◌, ◌+◌, ◌≤◌, drop}
use Rattle.lists.specs.Blocks.{cat}
use Rattle.row_order.specs.Spans.{spelled}
use Rattle.output.specs.Writer.{shown, pours, run_of}
use Rattle.script_tables.proofs.put_spans.Given as goal

abbrev pub invariant-loop-x : goal.invariant-loop-x
invariant-loop-x l =
    let f = λ (x : ℕ). run_of (spelled l.dirs x) in
    (l.a ≤ l.at + l.x-index * 514) × (pours (cat f (drop l.x-index l.spans)) (shown l.out l.a) ≡ pours (cat f l.spans) (shown l.initial.out l.at))
