-- Carried by `pool_is`: the record's numbers, its queue, its rows and its directories, each put out behind the other.
use mathlib.Core.Path.{◌≡◌, ◌∙◌, sym, ap}
use mathlib.Core.List.{List}
use Prim.Native.Nat.{ℕ}
use lib.ListN.{length, take}
use lib.Seq.{length-take-le}
use Rattle.le.specs.Le.{le}
use Rattle.le.proofs.Fields.{length_le}
use Rattle.lists.specs.Blocks.{cat}
use Rattle.lists.specs.Runs.{range}
use Rattle.slot_rows.specs.Rows.{rows_of}
use Rattle.dir_rows.specs.Rows.{dirs_of}
use Rattle.pool_state.specs.State.{bufs}
use Rattle.pool_state.specs.InBuffers.{pool_rows}
use Rattle.output.specs.Writer.{shown, pours}
use Rattle.output.proofs.InParts.{after_pours, pours_then}
use Rattle.script_tables.specs.Tables.{row_shown, dirs_shown}
use Rattle.script_tables.proofs.Turns.{few_held, free_is, few_free, few_dirs, dirs_fit, pool_is}
use native.Mathlib.Omega.{arith}
use borrow.Author.Rules.{rules}
use Rattle.script_tables.proofs.put_pool.Goals as goal

pub put_le-b-requires : goal.put_le-b-requires
put_le-b-requires c =
    omega (
      arith,
      after_pours _ _ c.put_le-a.ensures,
      (length_le 8 c.args.pool.counter),
      (c.requires.1),
    )

pub slice_bounds-q-end : goal.slice_bounds-q-end
slice_bounds-q-end c =
    let w : (length c.args.pool.queue ≡ 64) = search (
      rules,
      (c.well_formed),
    ) in omega (
      arith,
      w,
      (few_free _ c.requires.0),
    )

pub slice_bounds-put_rows-end : goal.slice_bounds-put_rows-end
slice_bounds-put_rows-end c =
    let w : (length c.args.pool.queue ≡ 64) = search (
      rules,
      (c.well_formed),
    ) in
    sym (length-take-le c.args.pool.free c.args.pool.queue (omega (arith, w, few_free _ c.requires.0)))

pub put_rows-c-requires : goal.put_rows-c-requires
put_rows-c-requires c = (
  pool_rows _ c.requires.0,
  few_held _ c.requires.0,
  omega (
    arith,
    after_pours _ _ c.put_le-a.ensures,
    length_le 8 c.args.pool.counter,
    c.requires.1,
    after_pours _ _ c.put_le-b.ensures,
    length_le 1 c.args.pool.held,
  ),
)

pub put_le-d-requires : goal.put_le-d-requires
put_le-d-requires c =
    omega (
      arith,
      (after_pours _ _ c.put_le-a.ensures),
      (length_le 8 c.args.pool.counter),
      (c.requires.1),
      (after_pours _ _ c.put_le-b.ensures),
      (length_le 1 c.args.pool.held),
      c.put_rows-c.ensures.few,
      (few_held _ c.requires.0),
    )

pub slice_bounds-q-end-2 : goal.slice_bounds-q-end-2
slice_bounds-q-end-2 c =
    let w : (length c.args.pool.queue ≡ 64) = search (
      rules,
      (c.well_formed),
    ) in omega (
      arith,
      w,
      (few_free _ c.requires.0),
    )

pub slice_bounds-put_bytes-end : goal.slice_bounds-put_bytes-end
slice_bounds-put_bytes-end c =
    let w : (length c.args.pool.queue ≡ 64) = search (
      rules,
      (c.well_formed),
    ) in
    sym (length-take-le c.args.pool.free c.args.pool.queue (omega (arith, w, few_free _ c.requires.0)))

pub put_bytes-e-requires : goal.put_bytes-e-requires
put_bytes-e-requires c =
    omega (
      arith,
      (after_pours _ _ c.put_le-a.ensures),
      (length_le 8 c.args.pool.counter),
      (c.requires.1),
      (after_pours _ _ c.put_le-b.ensures),
      (length_le 1 c.args.pool.held),
      (c.put_rows-c.ensures.few),
      (few_held _ c.requires.0),
      after_pours _ _ c.put_le-d.ensures,
      (length_le 1 c.args.pool.free),
      (free_is _ c.requires.0),
      (few_free _ c.requires.0),
    )

pub put_dirs-requires : goal.put_dirs-requires
put_dirs-requires c = (
  dirs_fit _ c.requires.0,
  few_dirs _ c.requires.0,
  omega (
    arith,
    after_pours _ _ c.put_le-a.ensures,
    length_le 8 c.args.pool.counter,
    c.requires.1,
    after_pours _ _ c.put_le-b.ensures,
    length_le 1 c.args.pool.held,
    c.put_rows-c.ensures.few,
    few_held _ c.requires.0,
    after_pours _ _ c.put_le-d.ensures,
    length_le 1 c.args.pool.free,
    free_is _ c.requires.0,
    few_free _ c.requires.0,
    after_pours _ _ c.put_bytes-e.ensures,
  ),
)

pub returns : goal.returns
returns c =
    let q = c.args.pool in
    let queue : List ℕ = take q.free q.queue in
    let rows : List ℕ = cat (row_shown queue (rows_of c.args.nums.now c.args.names.now q.held))
    (range 0 q.held) in
    let ds : List ℕ = dirs_shown (dirs_of c.args.dirs.now q.dirs) in
    let o = shown c.args.out.now c.args.at in record {
      pool = pours_then _ ds o (pours_then _ queue o
          (pours_then _ (le 1 q.free) o
          (pours_then _ rows o (pours_then (le 8 q.counter) (le 1 q.held) o c.put_le-a.ensures
          c.put_le-b.ensures) c.put_rows-c.ensures.rows) c.put_le-d.ensures)
          c.put_bytes-e.ensures) c.put_dirs.ensures.dirs
          ∙ ap (λ (t : List ℕ). pours t (shown c.args.out.now c.args.at))
          (pool_is (bufs q c.args.nums.now c.args.names.now c.args.dirs.now) c.requires.0);
      few = omega (
        arith,
        after_pours _ _ c.put_le-a.ensures,
        length_le 8 c.args.pool.counter,
        c.requires.1,
        after_pours _ _ c.put_le-b.ensures,
        length_le 1 c.args.pool.held,
        c.put_rows-c.ensures.few,
        few_held _ c.requires.0,
        after_pours _ _ c.put_le-d.ensures,
        length_le 1 c.args.pool.free,
        free_is _ c.requires.0,
        few_free _ c.requires.0,
        after_pours _ _ c.put_bytes-e.ensures,
        c.put_dirs.ensures.few,
      );
    }
