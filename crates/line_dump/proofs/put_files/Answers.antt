-- The invariant: what is left to put out makes the whole. `cat_turn` passes a line.
use Rattle.std.proofs.Common.{ℕ, ap, ◌∙◌, get_or, arith}
use Rattle.slot_rows.specs.Held.{held}
use Rattle.output.specs.Writer.{shown, pours}
use Rattle.output.proofs.InParts.{after_pours, cat_turn, cat_end}
use Rattle.row_order.specs.Spans.{slot_of}
use Rattle.line_dump.specs.Dump.{file_line}
use Rattle.line_dump.proofs.Ways.{file_few, held_get}
use Rattle.line_dump.proofs.put_files.Goals as goal

pub put_file-a-requires : goal.put_file-a-requires
put_file-a-requires c =
    (c.requires.0, rw c.slot_of.ensures (held_get c.args.rows.now.n c.args.spans.now c.loop-x.x-index c.requires.1 (omega arith)), omega arith)

pub loop-x-preserved : goal.loop-x-preserved
loop-x-preserved c =
    let l = c.loop-x in
    let s = c.args.spans.now in
    let w = held c.args.rows.now in
    let o = shown l.out l.a in
    let e = c.put_file-a.ensures ∙ ap (λ (i : ℕ). pours (file_line w i) o) c.slot_of.ensures in
    record {
      few = omega (arith, after_pours _ _ e, file_few w c.requires.0.short (slot_of (get_or s l.x-index 0)), l.invariant.few);
      left = cat_turn (λ x. file_line w (slot_of x)) s l.x-index 0 _ (omega arith) e ∙ l.invariant.left;
    }

pub returns : goal.returns
returns c =
    cat_end _ c.args.spans.now c.loop-x.x-index _ (omega arith) ∙ c.loop-x.invariant.left
