-- What is picked, by what the closures answer.
use Rattle.std.proofs.Common.{rules, ◌∙◌, sym, ap, length}
use lib.Seq.{sets}
use Rattle.slot_rows.specs.Rows.{at}
use Rattle.slot_rows.specs.Held.{held}
use Rattle.row_order.specs.Spans.{file_span}
use Rattle.inner_list.specs.Listing.{is_child}
use Rattle.inner_list.proofs.Ways.{child_files_lem}
use Rattle.inner_list.proofs.child_files.Goals as goal

pub returns : goal.returns
returns c =
    let rows = c.args.rows.now in
    let rs = held rows in
    let h = c.picked.ensures (λ i. is_child c.args.dir.now (at rs i)) (file_span rs) (λ i t l k. search rules) (λ i x l k. search rules) in
    let e = child_files_lem c.args.dir.now rows.nums.now rows.names.now rows.n in
    record { count = h.0 ∙ sym (ap length e); picked = h.1 ∙ sym (ap (sets c.args.spans.now 0) e) }
