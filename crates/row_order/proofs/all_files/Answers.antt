-- What is picked, by what the closures answer.
use Rattle.std.proofs.Common.{rules, ◌∙◌, sym, ap, length}
use lib.Seq.{sets}
use Rattle.slot_rows.specs.Rows.{at, is_bound}
use Rattle.slot_rows.specs.Held.{held}
use Rattle.row_order.specs.Spans.{file_span}
use Rattle.row_order.specs.Picks.{file_spans_lem}
use Rattle.row_order.proofs.all_files.Goals as goal

pub returns : goal.returns
returns c =
    let rows = c.args.rows.now in
    let rs = held rows in
    let h = c.picked.ensures (λ i. is_bound (at rs i)) (file_span rs) (λ i t l k. search rules) (λ i x l k. search rules) in
    let e = file_spans_lem rows.nums.now rows.names.now rows.n in
    (h.0 ∙ sym (ap length e), h.1 ∙ sym (ap (sets c.args.spans.now 0) e))
