-- The invariant: what is left to put out makes the whole. `cat_turn` passes a line.
use Rattle.std.proofs.Common.{◌≡◌, ◌+◌, ◌*◌, ◌≤◌, drop}
use Rattle.lists.specs.Blocks.{cat}
use Rattle.slot_rows.specs.Held.{held}
use Rattle.output.specs.Writer.{shown, pours}
use Rattle.row_order.specs.Spans.{slot_of}
use Rattle.line_dump.specs.Dump.{file_line}
use Rattle.line_dump.proofs.put_files.Given as goal

abbrev pub invariant-loop-x : goal.invariant-loop-x
invariant-loop-x l = record {
  few : l.a ≤ l.at + l.x-index * 600;
  left : pours (cat (λ x. file_line (held l.rows) (slot_of x)) (drop l.x-index l.spans)) (shown l.out l.a)
      ≡ pours (cat (λ x. file_line (held l.rows) (slot_of x)) l.spans) (shown l.initial.out l.at);
}
