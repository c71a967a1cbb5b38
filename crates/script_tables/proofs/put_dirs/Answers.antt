-- What is put out in parts is put out as a whole (`pours_then`): the count, then the sorted spellings.
use mathlib.Core.Path.{◌≡◌, ◌∙◌, sym, ap}
use mathlib.Core.List.{◌++◌}
use Prim.Native.Nat.{ℕ}
use lib.ListN.{length, replicate, length-replicate}
use lib.Seq.{length-take-le}
use Rattle.lists.specs.Blocks.{cat}
use Rattle.le.specs.Le.{le}
use Rattle.le.proofs.Fields.{length_le}
use Rattle.dir_rows.specs.Rows.{dirs_of}
use Rattle.dir_rows.proofs.InBuffer.{length_dirs}
use Rattle.output.specs.Writer.{shown, pours, run_of}
use Rattle.output.proofs.InParts.{after_pours, pours_then}
use Rattle.row_order.specs.Spans.{in_order}
use Rattle.script_tables.specs.Tables.{dirs_shown}
use native.Mathlib.Omega.{arith}
use Rattle.script_tables.proofs.put_dirs.Goals as goal

pub slice_bounds-put_sorted-end : goal.slice_bounds-put_sorted-end
slice_bounds-put_sorted-end c =
    let n : length (replicate {A = ℕ} 256 0) ≡ 256 = length-replicate {A = ℕ} 256 0 in
    sym (length-take-le c.args.m (replicate {A = ℕ} 256 0) (omega (arith, n, c.requires.1)))

pub put_sorted-requires : goal.put_sorted-requires
put_sorted-requires c =
    let n : length (replicate {A = ℕ} 256 0) ≡ 256 = length-replicate {A = ℕ} 256 0 in (
      c.requires.0,
      c.requires.1,
      length-take-le c.args.m (replicate {A = ℕ} 256 0)
          (omega (arith, n, c.requires.1)),
      omega (
        arith,
        after_pours _ _ c.put_le-a.ensures,
        length_le 2 c.args.m,
        c.requires.2,
      ),
    )

pub returns : goal.returns
unfolding dirs_shown
returns c =
    record {
      dirs = pours_then (le 2 c.args.m) (cat run_of (in_order (dirs_of c.args.dirs.now c.args.m)))
          (shown c.args.out.now c.args.at) c.put_le-a.ensures c.put_sorted.ensures.runs
          ∙ ap (λ (k : ℕ). pours (le 2 k ++ cat run_of (in_order (dirs_of c.args.dirs.now c.args.m)))
          (shown c.args.out.now c.args.at)) (sym (length_dirs c.args.dirs.now c.args.m));
      few = omega (
        arith,
        after_pours _ _ c.put_le-a.ensures,
        length_le 2 c.args.m,
        c.put_sorted.ensures.few,
        c.requires.1,
      );
    }
