-- The spans that were written are those of all directories (`dirs_front`); sorted, they spell the directories in their order: `dirs_put`.
use Rattle.std.proofs.Common.{ℕ, List, ap, sym, subst, ◌∙◌, length, replicate, arith}
use Rattle.lists.specs.Sort.{sort}
use Rattle.row_order.specs.Spans.{AllInside, span_before}
use Rattle.row_order.specs.AllDirs.{dirs_inside, dirs_many}
use Rattle.line_dump.proofs.Spans.{dirs_front}
use Rattle.line_dump.proofs.Ways.{sorted_inside, sorted_count, dirs_put}
use Rattle.line_dump.proofs.put_all_dirs.Goals as goal

pub slice_bounds-held-end : goal.slice_bounds-held-end
slice_bounds-held-end c =
    let f = dirs_front c.args.m c.args.dirs.now c.requires.0 (replicate 256 0) _ c.all_dirs.ensures c.requires.1 in
    omega (arith, dirs_many c.args.dirs.now c.args.m c.requires.0, ap length f)

pub sort-requires : goal.sort-requires
sort-requires c =
    let f = dirs_front c.args.m c.args.dirs.now c.requires.0 (replicate 256 0) _ c.all_dirs.ensures c.requires.1 in
    subst (λ (x : List ℕ). AllInside c.args.dirs.now x) (sym f) (dirs_inside _ _ c.requires.0)

pub put_dirs-requires : goal.put_dirs-requires
put_dirs-requires c =
    let f = dirs_front c.args.m c.args.dirs.now c.requires.0 (replicate 256 0) _ c.all_dirs.ensures c.requires.1 in
    let e = c.sort.ensures ∙ ap (sort (span_before c.args.dirs.now)) f in
    (sorted_inside _ _ c.requires.0 e, omega (arith, c.requires.1, c.requires.2, sorted_count _ _ c.requires.0 e))

pub returns : goal.returns
returns c =
    let f = dirs_front c.args.m c.args.dirs.now c.requires.0 (replicate 256 0) _ c.all_dirs.ensures c.requires.1 in
    let e = c.sort.ensures ∙ ap (sort (span_before c.args.dirs.now)) f in
    dirs_put _ _ c.requires.0 e _ c.put_dirs.ensures
