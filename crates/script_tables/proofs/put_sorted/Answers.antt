-- All parts are written, and sorted: `sorted_cat` says what they put out.
use mathlib.Core.Path.{◌≡◌, ◌∙◌, sym, ap, subst}
use mathlib.Core.List.{List}
use Prim.Native.Nat.{ℕ, ◌≤◌, ◌*◌}
use lib.ListN.{length}
use Rattle.limits.specs.Limits.{dir_width}
use Rattle.lists.specs.Blocks.{cat}
use Rattle.lists.specs.Sort.{sort}
use Rattle.dir_rows.specs.Rows.{dirs_of}
use Rattle.row_order.specs.Spans.{spelled, span_before, dir_spans, AllInside}
use Rattle.row_order.specs.AllDirs.{dirs_many, dirs_inside, sorted_many, sorted_inside, sorted_cat}
use Rattle.output.specs.Writer.{shown, pours, run_of}
use Rattle.script_tables.proofs.Turns.{sets_whole}
use lib.Seq.{sets}
use native.Mathlib.Omega.{arith}
use Rattle.script_tables.proofs.put_sorted.Goals as goal

-- the parts as they are written
parts : (d : List ℕ) (m : ℕ) (s s' : List ℕ) → length s ≡ m → s' ≡ sets s 0 (dir_spans (dirs_of d m)) → m * dir_width ≤ length d
    → s' ≡ dir_spans (dirs_of d m)
parts d m s s' n e h = e ∙ sets_whole (dir_spans (dirs_of d m)) s (dirs_many d m h ∙ sym n)

pub sort-requires : goal.sort-requires
sort-requires c =
    let d = c.args.dirs.now in
    let e = parts d c.args.m c.args.spans.now _ c.requires.2 c.all_dirs.ensures c.requires.0 in
    subst (AllInside d) (sym e) (dirs_inside d c.args.m c.requires.0)

pub put_spans-requires : goal.put_spans-requires
put_spans-requires c =
    let d = c.args.dirs.now in
    let m = c.args.m in
    let h = c.requires.0 in
    let w = parts d m c.args.spans.now _ c.requires.2 c.all_dirs.ensures h in
    let e = c.sort.ensures ∙ ap (sort (span_before d)) w in (
      subst (AllInside d) (sym e) (sorted_inside d m h),
      omega (arith, ap length e, sorted_many d m h, c.requires.1),
      c.requires.3,
    )

pub returns : goal.returns
returns c =
    let d = c.args.dirs.now in
    let m = c.args.m in
    let h = c.requires.0 in
    let w = parts d m c.args.spans.now _ c.requires.2 c.all_dirs.ensures h in
    let e = c.sort.ensures ∙ ap (sort (span_before d)) w in
    let o = shown c.args.out.now c.args.at in
    let q = ap (cat (λ (x : ℕ). run_of (spelled d x))) e ∙ sorted_cat d m h run_of in
    record {
      runs = c.put_spans.ensures.runs ∙ ap (λ (l : List ℕ). pours l o) q;
      few = omega (arith, ap length e, sorted_many d m h, c.put_spans.ensures.few);
      parts = e;
    }
