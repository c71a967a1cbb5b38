-- Carried by `rows_are`: the rows are fresh, and what was run over them is what the script comes to.
use mathlib.Core.Path.{◌∙◌, ap, sym}
use Prim.Native.Nat.{◌*◌}
use lib.Seq.{length-take-le}
use Rattle.limits.specs.Limits.{max_path, row_width, dir_width}
use Rattle.output.specs.Writer.{shown}
use Rattle.script_step.specs.Operate.{Said}
use Rattle.script_step.proofs.Ways.{fresh_front, fresh_length}
use Rattle.script.specs.Script.{closed}
use Rattle.script.proofs.Ways.{closed_parts, rows_are}
use native.Mathlib.Omega.{arith}
use Rattle.script.proofs.on_rows.Goals as goal

pub slice_bounds-run_all-end-2 : goal.slice_bounds-run_all-end-2
slice_bounds-run_all-end-2 c =
    sym (length-take-le (c.args.setup.rows * row_width) c.filled-nums.result
    (omega (arith, fresh_length 264 0 c.filled-nums.result c.filled-nums.ensures, c.requires.0.rows)))

pub slice_bounds-run_all-end-3 : goal.slice_bounds-run_all-end-3
slice_bounds-run_all-end-3 c =
    sym (length-take-le (c.args.setup.rows * max_path) c.filled-names.result
    (omega (arith, fresh_length 31680 0 c.filled-names.result c.filled-names.ensures, c.requires.0.rows)))

pub slice_bounds-run_all-end-4 : goal.slice_bounds-run_all-end-4
slice_bounds-run_all-end-4 c =
    sym (length-take-le (c.args.setup.dir_rows * dir_width) c.filled-dirs.result
    (omega (arith, fresh_length 124356 0 c.filled-dirs.result c.filled-dirs.ensures, c.requires.0.dir_rows_lem)))

pub returns : goal.returns
returns c =
    let u = c.args.setup in
    let p = closed_parts _ _ _ _
    (c.run_all-ran.ensures ∙ ap (λ (y : Said). closed y (shown c.args.out.now 0))
    (rows_are c.args.script.now u c.args.bytes.now c.args.phys.now
    c.args.from _ _ _ _ c.zero.ensures
    (fresh_front (u.rows * row_width) 264 0 c.filled-nums.result c.filled-nums.ensures (omega (arith, c.requires.0.rows)))
    (fresh_front (u.rows * max_path) 31680 0 c.filled-names.result c.filled-names.ensures
    (omega (arith, c.requires.0.rows)))
    (fresh_front (u.dir_rows * dir_width) 124356 0 c.filled-dirs.result c.filled-dirs.ensures
    (omega (arith, c.requires.0.dir_rows_lem))))) in
    record { output = p.0; bytes = p.1; phys = p.2 }
