-- A turn of the loop puts out a row (`each_more`), and what is left makes the whole.
use Rattle.std.proofs.Common.{ℕ, List, ◌∙◌, ◌+◌, ◌-◌, arith}
use Rattle.lists.specs.Blocks.{cat}
use Rattle.lists.specs.Runs.{range}
use Rattle.slot_rows.specs.Held.{held}
use Rattle.output.specs.Writer.{shown}
use Rattle.script_tables.specs.Tables.{row_shown}
use Rattle.script_tables.proofs.Turns.{turn, done, each_more, each_end}
use Rattle.script_tables.proofs.put_rows.Goals as goal

pub loop-i-preserved : goal.loop-i-preserved
loop-i-preserved c =
    let a = c.loop-i in
    let n = c.args.rows.now.n in
    let f : ℕ → List ℕ = row_shown c.args.queue.now (held c.args.rows.now) in (
      omega (arith, a.invariant.0, c.put_row-a.ensures.few),
      turn (f a.i) (cat f (range (a.i + 1) (n - (a.i + 1)))) (cat f (range a.i (n - a.i)))
          (shown a.out a.a) (each_more f n a.i (omega arith)) c.put_row-a.ensures.row ∙ a.invariant.1,
    )

pub returns-clause-rows : goal.returns-clause-rows
returns-clause-rows c =
    let a = c.loop-i in
    let n = c.args.rows.now.n in
    let f : ℕ → List ℕ = row_shown c.args.queue.now (held c.args.rows.now) in
    done (cat f (range a.i (n - a.i))) (shown a.out a.a) (each_end f n a.i (omega arith)) ∙ a.invariant.1
