-- What each inner call makes of the rows, whatever of it failed: no stale handle comes back.
use Prim.Native.Nat.{ℕ, suc, ◌+◌, max}
use native.Mathlib.Omega.{arith}
use mathlib.Core.Path.{refl, sym, subst}
use mathlib.Core.Logic.{inl, inr}
use mathlib.Core.Bool.{Bool, true, false}
use mathlib.Core.List.{List, [], ◌∷◌}
use lib.Dec.{eqb, ltb, leb}
use lib.ListN.{length, set, get_or}
use Rattle.limits.specs.Limits.{max_path, last_counter}
use Rattle.lists.specs.Runs.{range}
use Rattle.header.specs.Block.{bound_header, encoded}
use Rattle.device.specs.declared.Geometry.{Geometry}
use Rattle.device.specs.Device.{Dev, data_truncate_m}
use Rattle.slot_rows.specs.Rows.{Row, file, unbound, bound, none, at, is_bound, gen_of, len_of, is_dirty, resized, cleaned, find}
use Rattle.dir_rows.specs.Dirs.{registered_with}
use Rattle.pool_state.specs.State.{State}
use Rattle.pool_state.specs.Queue.{queued, unqueued, spent}
use Rattle.pool_state.specs.Changes.{with_row, with_dirs}
use Rattle.pool_steps.specs.World.{World, world}
use Rattle.pool_steps.specs.Steps.{fine_m, put_m, row_block, release_m, sync_row_m}
use Rattle.pool_steps.specs.Outcome.{Outcome, outcome, None}
use Rattle.pool_steps.proofs.Stays.{release_is}
use Rattle.pool_steps.proofs.Numbers.{either}
use Rattle.mount_survey.specs.Heads.{Head, absent, idle, claim, reads_m}
use Rattle.mount_survey.specs.Survey.{Survey, claim_row, step, scan}
use Rattle.mount_survey.proofs.Surveyed.{step_ways}
use Rattle.mount.specs.Mount.{begin, installed, drain, moved, settle, after_reads, too_many, adopt_m}
use Rattle.inner_handle.specs.Handles.{Filling, filling, read_part, read_at_m, resized_m, write_at_m, set_len_m, sync_m}
use Rattle.inner_handle.proofs.Stays.{on_handle_lem}
use Rattle.inner_open.specs.Files.{is_file, registers, binds, Handle, reopen_m, created, create_m, admits_new, open_new_m, open_write_m, remove_m}
use Rattle.inner_rename.specs.Rename.{front_m, rebind_m, vacated_m, settled_m, renamed_m, rename_m}
use Rattle.inner_dirs.specs.Folders.{too_long, create_dir_all_m, is_due, sync_one_m, sync_each_m, sync_dir_m}
use Rattle.calls_gate.proofs.Fates.{Onward, onward_same, onward_then, onward_put, onward_more, resized_fate}

-- ---- on pools

-- s becomes t; so with their devices.
abbrev pub GoesOn : State → State → Type 0
GoesOn s t = Onward s.rows s.counter t.rows t.counter

abbrev pub GoesW : World → World → Type 0
GoesW w v = GoesOn w.state v.state

pub stands : (s : State) → GoesOn s s
stands s = onward_same s.rows s.counter s.counter (omega arith)

then_goes : (s t u : State) → GoesOn s t → GoesOn t u → GoesOn s u
then_goes s t u a b = onward_then s.rows t.rows u.rows s.counter t.counter u.counter a b

-- a row with another length or dirty bit
resized_goes : (s : State) (i n : ℕ) (d : Bool) → GoesOn s (with_row i (resized n d (at s.rows i)) s)
unfolding with_row
resized_goes s i n d =
    let r = at s.rows i in
    onward_put s.rows s.rows s.counter s.counter i (resized n d r) (stands s) (resized_fate s.counter n d r)

-- ---- the calls on a handle

resize_onward : (d : Dev) (i n : ℕ) (s : State) → GoesOn s (resized_m d i n s).state
unfolding resized_m
resize_onward d i n s =
    either (GoesOn s) (fine_m d) {x = with_row i (resized n true (at s.rows i)) s} {y = s} (resized_goes s i n true) (stands s)

module _ (plan : List ℕ) (g : Geometry) where
  sync_row_onward : (i : ℕ) (w : World) → GoesW w (sync_row_m plan g i w)
  unfolding sync_row_m cleaned
  sync_row_onward i w =
      let s = w.state in
      let r = at s.rows i in
      either (GoesOn s) (fine_m (put_m plan g i (row_block r) w.dev)) {x = with_row i (resized (len_of r) false r) s} {y = s}
      (resized_goes s i (len_of r) false) (stands s)

  module _ (slot generation : ℕ) (w : World) where
    pub read_at_onward : (pos : ℕ) (buf : List ℕ) → GoesW w (read_at_m plan g slot generation pos buf w).left
    unfolding read_at_m read_part
    read_at_onward pos buf =
        on_handle_lem (GoesW w) slot generation (filling 0 buf) w _ (stands w.state)
        (λ e. either (λ (o : Outcome Filling World). GoesW w o.left) (leb (len_of (at w.state.rows slot)) pos)
        {x = outcome 0 (filling 0 buf) w} {y = read_part plan g slot pos buf w} (stands w.state) (stands w.state))

    pub write_at_onward : (pos : ℕ) (src : List ℕ) → GoesW w (write_at_m plan g slot generation pos src w).left
    unfolding write_at_m
    write_at_onward pos src = on_handle_lem (GoesW w) slot generation tt w _ (stands w.state) (λ e. resize_onward _ slot _ w.state)

    pub set_len_onward : (len : ℕ) → GoesW w (set_len_m plan g slot generation len w).left
    unfolding set_len_m
    set_len_onward len = on_handle_lem (GoesW w) slot generation tt w _ (stands w.state) (λ e. resize_onward _ slot _ w.state)

    pub sync_onward : GoesW w (sync_m plan g slot generation w).left
    unfolding sync_m
    sync_onward =
        on_handle_lem (GoesW w) slot generation tt w _ (stands w.state)
        (λ e. either (GoesW w) (is_dirty (at w.state.rows slot)) (sync_row_onward slot w) (stands w.state))

  -- ---- release, and the calls by path

  release_onward : (i : ℕ) (w : World) → GoesW w (release_m plan g i w)
  unfolding is_bound
  release_onward i w =
      let s = w.state in
      subst (GoesOn s) (sym (release_is plan g i w))
      (onward_put s.rows s.rows s.counter (s.counter + 1) i (unbound s.counter)
      (onward_same s.rows s.counter (s.counter + 1) (omega arith)) (inl refl))

  pub remove_onward : (path : List ℕ) (w : World) → GoesW w (remove_m plan g path w).left
  unfolding remove_m
  remove_onward path w =
      let P : Outcome None World → Type 0 = λ o. GoesW w o.left in
      let s = w.state in
      either P (is_file path s) (either P (ltb last_counter (s.counter + 1)) (stands s) (release_onward (find path s.rows) w)) (stands s)

  created_onward : (path : List ℕ) (fine : Bool) (s : State) → GoesOn s (created path fine s)
  unfolding created binds registers with_dirs with_row queued spent unqueued gen_of
  created_onward path true s =
      onward_put s.rows s.rows s.counter (s.counter + 1) (get_or s.queue 0 0) (bound path (file s.counter 0 true))
      (onward_same s.rows s.counter (s.counter + 1) (omega arith)) (inr (inr (omega arith)))
  created_onward path false s = onward_same s.rows s.counter (s.counter + 1) (omega arith)

  pub open_write_onward : (path : List ℕ) (keep : Bool) (w : World) → GoesW w (open_write_m plan g path keep w).left
  unfolding open_write_m reopen_m open_new_m create_m
  open_write_onward path keep w =
      let P : Outcome Handle World → Type 0 = λ o. GoesW w o.left in
      let i = find path w.state.rows in
      either P (ltb max_path (length path)) (stands w.state)
      (either P (is_file path w.state)
      (either P keep (stands w.state) (resize_onward (data_truncate_m plan g i 0 w.dev) i 0 w.state))
      (either P (eqb (admits_new path w.state) 0) (created_onward path _ w.state) (stands w.state)))

  -- ---- rename

  rebind_onward : (i : ℕ) (to : List ℕ) (w : World) → GoesW w (rebind_m plan g i to w)
  unfolding rebind_m spent with_row
  rebind_onward i to w =
      let s = w.state in
      let r = at s.rows i in
      let more = onward_same s.rows s.counter (s.counter + 1) (omega arith) in
      either (λ (t : State). Onward s.rows s.counter t.rows (t.counter + 1))
      (fine_m (put_m plan g i (encoded (bound_header (length to) (len_of r) s.counter) to) w.dev))
      {x = s} {y = with_row i (resized (len_of r) true r) s} more
      (onward_put s.rows s.rows s.counter (s.counter + 1) i (resized (len_of r) true r) more
      (resized_fate s.counter (len_of r) true r))

  vacated_onward : (j : ℕ) (w : World) → GoesW w (vacated_m plan g j w)
  unfolding vacated_m
  vacated_onward j w = either (GoesW w) (ltb j (length w.state.rows)) (release_onward j w) (stands w.state)

  -- the file's row has the generation that the counter was
  settled_onward : (i j : ℕ) (to : List ℕ) (len : ℕ) (w v : World) → GoesW w v
      → GoesW w (settled_m plan g i j to w.state.counter len v).left
  unfolding settled_m registers with_dirs with_row gen_of
  settled_onward i j to len w v a =
      let u = vacated_m plan g j v in
      let b = then_goes w.state v.state u.state a (vacated_onward j v) in
      let r = bound to (file w.state.counter len false) in
      let c = onward_put w.state.rows u.state.rows w.state.counter u.state.counter i r b (inr (inr (omega arith))) in
      either (GoesOn w.state) (fine_m u.dev) {x = registers to (with_row i r u.state)} {y = with_row i r u.state} c c

  pub rename_onward : (from to : List ℕ) (w : World) → GoesW w (rename_m plan g from to w).left
  unfolding rename_m renamed_m
  rename_onward from to w =
      let P : Outcome None World → Type 0 = λ o. GoesW w o.left in
      let f = front_m from to w.state in
      let v = rebind_m plan g f.from to w in
      let a = rebind_onward f.from to w in
      either P f.go
      (either P (fine_m v.dev) (settled_onward f.from f.to to (len_of (at w.state.rows f.from)) w v a) a)
      (stands w.state)

  -- ---- directories

  each_onward : (path : List ℕ) (is : List ℕ) (w v : World) → GoesW w v → GoesW w (sync_each_m plan g path is v).left
  unfolding sync_each_m sync_one_m
  each_onward path [] w v a = a
  each_onward path (i ∷ is) w v a =
      let P : Outcome None World → Type 0 = λ o. GoesW w o.left in
      let b : P (sync_one_m plan g path i v) =
      either P (is_due path (at v.state.rows i))
      (then_goes w.state v.state (sync_row_m plan g i v).state a (sync_row_onward i v)) a in
      either P (eqb (sync_one_m plan g path i v).out 0) (each_onward path is w (sync_one_m plan g path i v).left b) b

  pub sync_dir_onward : (path : List ℕ) (w : World) → GoesW w (sync_dir_m plan g path w).left
  unfolding sync_dir_m
  sync_dir_onward path w = each_onward path (range 0 (length w.state.rows)) w w (stands w.state)

  -- ---- adopt

  drain_onward : (ls : List ℕ) (w : World) → GoesW w (drain plan g ls w)
  unfolding drain
  drain_onward [] w = stands w.state
  drain_onward (i ∷ ls) w =
      then_goes w.state (release_m plan g i w).state (drain plan g ls (release_m plan g i w)).state (release_onward i w)
      (drain_onward ls (release_m plan g i w))

pub create_dir_all_onward : (path : List ℕ) (s : State) → GoesOn s (create_dir_all_m path s).left
unfolding create_dir_all_m with_dirs
create_dir_all_onward path s =
    let P : Outcome None State → Type 0 = λ o. GoesOn s o.left in
    either P (too_long path) (stands s)
    (either P (ltb s.chosen.dir_rows (length (registered_with s.dirs path))) (stands s) (stands s))

-- one more header: a new row behind the others, and the holder of its path may lose its own
step_onward : (rs : List Row) (c : ℕ) (h : Head) (v : Survey) → Onward rs c v.rows v.counter
    → Onward rs c (step h v).rows (step h v).counter
unfolding step is_bound
step_onward rs c absent v a = onward_more rs v.rows c v.counter (max v.counter 0) none a (omega arith)
step_onward rs c (idle g) v a = onward_more rs v.rows c v.counter (max v.counter (suc g)) none a (omega arith)
step_onward rs c (claim p g n) v a =
    let e = max v.counter (suc g) in
    let j = find p v.rows in
    step_ways p g n v (λ (t : Survey). Onward rs c t.rows t.counter)
    (λ l. onward_more rs v.rows c v.counter e (claim_row p g n) a (omega arith))
    (λ l k. onward_more rs v.rows c v.counter e none a (omega arith))
    (λ l k.
    let b = onward_put rs v.rows c v.counter j none a (inl refl) in
    onward_more rs (set v.rows j none) c v.counter e (claim_row p g n) b (omega arith))

scan_onward : (rs : List Row) (c : ℕ) (hs : List Head) (v : Survey) → Onward rs c v.rows v.counter
    → Onward rs c (scan hs v).rows (scan hs v).counter
unfolding scan
scan_onward rs c [] v a = a
scan_onward rs c (h ∷ hs) v a = scan_onward rs c hs (step h v) (step_onward rs c h v a)

module _ (plan : List ℕ) (g : Geometry) where
  settle_onward : (v : Survey) (w : World) → Onward w.state.rows w.state.counter v.rows v.counter
      → GoesW w (settle plan g v w).left
  unfolding settle installed
  settle_onward v w a =
      let P : Outcome None World → Type 0 = λ o. GoesW w o.left in
      let t = installed w.state v in
      either P (ltb w.state.chosen.dir_rows (length v.dirs)) (stands w.state)
      (either P (ltb last_counter (v.counter + length v.losers)) (stands w.state)
      (then_goes w.state t (drain plan g v.losers (world w.dev t)).state a (drain_onward plan g v.losers (world w.dev t))))

  pub adopt_onward : (k : ℕ) (w : World) → GoesW w (adopt_m plan g k w).left
  unfolding adopt_m after_reads
  adopt_onward k w =
      let P : Outcome None World → Type 0 = λ o. GoesW w o.left in
      let r = reads_m plan g (length w.state.rows) k w.dev in
      either P (too_many k w) (stands w.state)
      (either P r.failed (stands w.state)
      (settle_onward (scan r.heads (begin w.state)) (moved r.place w)
      (scan_onward w.state.rows w.state.counter r.heads (begin w.state) (stands w.state))))
