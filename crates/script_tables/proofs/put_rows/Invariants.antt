-- What was put out so far, and then the rows that are left, make the whole.
use Rattle.std.proofs.Common.{◌≡◌, ◌*◌, ◌+◌, ◌-◌, ◌≤◌}
use Rattle.lists.specs.Blocks.{cat}
use Rattle.lists.specs.Runs.{range}
use Rattle.slot_rows.specs.Held.{held}
use Rattle.output.specs.Writer.{shown, pours}
use Rattle.script_tables.specs.Tables.{row_shown}
use Rattle.script_tables.proofs.put_rows.Given as goal

abbrev pub invariant-loop-i : goal.invariant-loop-i
invariant-loop-i l =
    let f = row_shown l.queue (held l.rows) in
    (l.a ≤ l.at + l.i * 512) × (pours (cat f (range l.i (l.rows.n - l.i))) (shown l.out l.a) ≡ pours (cat f (range 0 l.rows.n)) (shown l.initial.out l.at))
