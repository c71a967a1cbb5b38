-- The spans that were written are those of all files (`files_front`); sorted, they stand for the files in their order: `files_put`.
use Rattle.std.proofs.Common.{ℕ, List, ap, sym, subst, ◌∙◌, length, replicate, arith}
use Rattle.lists.specs.Sort.{sort}
use Rattle.row_order.specs.Spans.{AllInside, span_before}
use Rattle.line_dump.proofs.Spans.{files_front, files_inside}
use Rattle.line_dump.proofs.Ways.{sorted_held, sorted_few, files_put}
use Rattle.line_dump.proofs.put_all_files.Goals as goal

pub slice_bounds-spans-end : goal.slice_bounds-spans-end
slice_bounds-spans-end c =
    (files_front _ _ _ _ c.requires.0 (replicate 64 0) _ _ c.all_files-count.ensures.0 c.all_files-count.ensures.1 c.requires.1).0

pub slice_bounds-files-end : goal.slice_bounds-files-end
slice_bounds-files-end c =
    let f = files_front _ _ _ _ c.requires.0 (replicate 64 0) _ _ c.all_files-count.ensures.0 c.all_files-count.ensures.1 c.requires.1 in
    omega (arith, c.all_files-count.ensures.0, ap length f.1)

pub sort-requires : goal.sort-requires
sort-requires c =
    let f = files_front _ _ _ _ c.requires.0 (replicate 64 0) _ _ c.all_files-count.ensures.0 c.all_files-count.ensures.1 c.requires.1 in
    subst (λ (x : List ℕ). AllInside c.args.rows.now.names.now x) (sym f.1) (files_inside _ _ _ _ c.requires.0)

pub put_files-requires : goal.put_files-requires
put_files-requires c =
    let f = files_front _ _ _ _ c.requires.0 (replicate 64 0) _ _ c.all_files-count.ensures.0 c.all_files-count.ensures.1 c.requires.1 in
    let e = c.sort.ensures ∙ ap (sort (span_before c.args.rows.now.names.now)) f.1 in
    (c.requires.0, sorted_held _ _ _ _ c.requires.0 e, omega (arith, c.requires.2, sorted_few _ _ _ _ c.requires.0 e))

pub returns : goal.returns
returns c =
    let f = files_front _ _ _ _ c.requires.0 (replicate 64 0) _ _ c.all_files-count.ensures.0 c.all_files-count.ensures.1 c.requires.1 in
    let e = c.sort.ensures ∙ ap (sort (span_before c.args.rows.now.names.now)) f.1 in
    files_put _ _ _ _ c.requires.0 e _ c.put_files.ensures
