-- Carried by `row_is`: the marks, the generation, the length and the path's run of one row.
use mathlib.Core.Path.{◌∙◌, ap}
use mathlib.Core.List.{List, ◌++◌}
use Prim.Native.Nat.{ℕ}
use lib.ListN.{length}
use Rattle.le.specs.Le.{le}
use Rattle.le.proofs.Fields.{length_le}
use Rattle.slot_rows.specs.Held.{held}
use Rattle.output.specs.Writer.{shown, pours, run_of}
use Rattle.output.proofs.InParts.{after_pours, pours_then}
use Rattle.script_tables.proofs.Turns.{row_is, length_run}
use native.Mathlib.Omega.{arith}
use Rattle.script_tables.proofs.put_row.Goals as goal

pub put_le-b-requires : goal.put_le-b-requires
put_le-b-requires c =
    omega (
      arith,
      after_pours _ _ c.put_le-a.ensures,
      (length_le 1 c.marks-m.result),
    )

pub put_le-c-requires : goal.put_le-c-requires
put_le-c-requires c =
    omega (
      arith,
      after_pours _ _ c.put_le-a.ensures,
      (length_le 1 c.marks-m.result),
      after_pours _ _ c.put_le-b.ensures,
      (length_le 8 c.row_generation-g.result),
    )

pub put_run-requires : goal.put_run-requires
put_run-requires c =
    omega (
      arith,
      (after_pours _ _ c.put_le-a.ensures),
      (length_le 1 c.marks-m.result),
      (after_pours _ _ c.put_le-b.ensures),
      (length_le 8 c.row_generation-g.result),
      after_pours _ _ c.put_le-c.ensures,
      (length_le 8 c.row_len-l.result),
      ap length c.path.ensures,
      (c.requires.0.short c.args.i),
    )

pub returns : goal.returns
returns c =
    let rs = held c.args.rows.now in
    let p : List ℕ = c.path.result.now in record {
      row = pours_then (le 1 c.marks-m.result)
          (le 8 c.row_generation-g.result ++ le 8 c.row_len-l.result ++ run_of p)
          (shown c.args.out.now c.args.at) c.put_le-a.ensures
          (pours_then (le 8 c.row_generation-g.result) (le 8 c.row_len-l.result ++ run_of p) _
          c.put_le-b.ensures
          (pours_then (le 8 c.row_len-l.result) (run_of p) _ c.put_le-c.ensures
          c.put_run.ensures))
          ∙ ap (λ (t : List ℕ). pours t (shown c.args.out.now c.args.at))
          (row_is c.args.queue.now rs c.args.i _ _ _ p c.marks-m.ensures
          c.row_generation-g.ensures c.row_len-l.ensures c.path.ensures);
      few = omega (
        arith,
        after_pours _ _ c.put_le-a.ensures,
        length_le 1 c.marks-m.result,
        after_pours _ _ c.put_le-b.ensures,
        length_le 8 c.row_generation-g.result,
        after_pours _ _ c.put_le-c.ensures,
        length_le 8 c.row_len-l.result,
        after_pours _ _ c.put_run.ensures,
        length_run p,
        ap length c.path.ensures,
        c.requires.0.short c.args.i,
      );
    }
