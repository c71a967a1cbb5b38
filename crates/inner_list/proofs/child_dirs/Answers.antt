-- What is picked, by what the closures answer.
use Rattle.std.proofs.Common.{rules, ◌∙◌, sym, ap, length, get_or, []}
use lib.Seq.{sets}
use Rattle.path.specs.Path.{is_parent}
use Rattle.dir_rows.specs.Rows.{dirs_of}
use Rattle.row_order.specs.Spans.{dir_span}
use Rattle.inner_list.proofs.Ways.{child_dirs_lem}
use Rattle.inner_list.proofs.child_dirs.Goals as goal

pub returns : goal.returns
returns c =
    let ds = dirs_of c.args.dirs.now c.args.m in
    let h = c.picked.ensures (λ j. is_parent c.args.dir.now (get_or ds j [])) (dir_span ds) (λ i t l k. search rules) (λ i x l k. search rules) in
    let e = child_dirs_lem c.args.dir.now c.args.dirs.now c.args.m in
    record { count = h.0 ∙ sym (ap length e); picked = h.1 ∙ sym (ap (sets c.args.spans.now 0) e) }
