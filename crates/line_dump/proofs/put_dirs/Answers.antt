-- The invariant: what is left to put out makes the whole. `cat_turn` passes a line.
use Rattle.std.proofs.Common.{◌∙◌, get_or, arith}
use Rattle.output.proofs.InParts.{after_pours, cat_turn, cat_end}
use Rattle.row_order.specs.Spans.{spelled}
use Rattle.row_order.specs.InOrder.{inside_get}
use Rattle.line_dump.specs.Dump.{dir_line}
use Rattle.line_dump.proofs.Ways.{dir_few}
use Rattle.line_dump.proofs.put_dirs.Goals as goal

pub put_dir-a-requires : goal.put_dir-a-requires
put_dir-a-requires c =
    (inside_get c.args.dirs.now c.args.spans.now c.loop-x.x-index c.requires.0 (omega arith), omega (arith, c.requires.1))

pub loop-x-preserved : goal.loop-x-preserved
loop-x-preserved c =
    let l = c.loop-x in
    let s = c.args.spans.now in
    record {
      few = omega (arith, after_pours _ _ c.put_dir-a.ensures, dir_few c.args.dirs.now (get_or s l.x-index 0), l.invariant.few);
      left = cat_turn (λ x. dir_line (spelled c.args.dirs.now x)) s l.x-index 0 _ (omega arith) c.put_dir-a.ensures ∙ l.invariant.left;
    }

pub returns : goal.returns
returns c =
    cat_end _ c.args.spans.now c.loop-x.x-index _ (omega arith) ∙ c.loop-x.invariant.left
