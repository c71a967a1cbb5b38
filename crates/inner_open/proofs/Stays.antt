-- "A pool stays a pool": what the calls by path leave of a pool with its device.
use Prim.Native.Nat.{ℕ, ◌+◌, ◌≤◌, ◌<◌}
use native.Mathlib.Omega.{arith}
use mathlib.Core.Path.{◌≡◌, refl, sym, ◌∙◌}
use mathlib.Core.Logic.{◌≢◌}
use mathlib.Core.Bool.{Bool, true, false, cond, false≢true}
use mathlib.Core.List.{List}
use lib.Dec.{eqb, ltb}
use lib.ListN.{length, get_or, length-set}
use borrow.Author.Tests.{ltb-true, ltb-false, eqb-true, eqb-false}
use Rattle.limits.specs.Limits.{max_path, last_counter}
use Rattle.lists.specs.Distinct.{In}
use Rattle.text.specs.Text.{is_text}
use Rattle.path.specs.Path.{ancestors}
use Rattle.path.proofs.Theorems.{same_path_lem, normal_short}
use Rattle.device.specs.declared.Geometry.{Geometry}
use Rattle.device.specs.Device.{data_truncate_m}
use Rattle.device.specs.AnyDevice.{truncate}
use Rattle.slot_rows.specs.Rows.{File, file, bound, at, is_bound, path_of, gen_of, holds, find}
use Rattle.slot_rows.proofs.Finding.{find_holds, find_none, holds_bound, holds_path}
use Rattle.dir_rows.specs.Dirs.{registered}
use Rattle.dir_rows.proofs.Joined.{joined_short}
use Rattle.dir_rows.proofs.Registering.{registered_dirs, ancestors_short}
use Rattle.pool_state.specs.State.{State, Valid}
use Rattle.pool_state.specs.Queue.{queued, unqueued, spent}
use Rattle.pool_state.specs.InBuffers.{first_in, first_gone, queued_valid, unqueued_valid, spent_valid}
use Rattle.pool_state.specs.Changes.{with_row, with_dirs, Admits, with_row_valid, with_dirs_valid}
use Rattle.pool_steps.specs.World.{World, Fit}
use Rattle.pool_steps.specs.Steps.{fine_m, release_m}
use Rattle.pool_steps.proofs.Stays.{Kept, call_kept, release_fit}
use Rattle.pool_steps.specs.Outcome.{outcome, None, by_device}
use Rattle.inner_handle.proofs.Stays.{resized_fit}
use Rattle.inner_open.specs.Files.{room_for, registers, binds, no_handle, reopen_m, created, create_m, admits_new, open_new_m, open_write_m, remove_m}

-- ---- a file bound

pub registers_valid : (s : State) (path : List ℕ) → Valid s → length path ≤ max_path → length (registered s.dirs path) ≤ s.chosen.dir_rows
    → Valid (registers path s)
unfolding registers
registers_valid s path ok short h =
    with_dirs_valid s (registered s.dirs path) ok h
    (record {
      short = joined_short s.dirs (ancestors path) ok.directories.short (ancestors_short path (omega (arith, normal_short path)));
      dirs = registered_dirs s.dirs path ok.directories.dirs;
    })

-- A bound row may stand at i: no other row holds its path, and i is not free.
pub bound_admitted : (s : State) (i : ℕ) (path : List ℕ) (f : File) → is_text path ≡ true → length path ≤ max_path → f.gen < s.counter
    → ((j : ℕ) → j ≢ i → holds path (at s.rows j) ≡ false) → (In i s.queue → ⊥) → Admits s i (bound path f)
unfolding path_of gen_of is_bound
bound_admitted s i path f t h y other busy =
    record {
      text = t;
      short = h;
      young = y;
      apart = λ b j ne u e. false≢true (sym (other j ne) ∙ holds_path path (at s.rows j) u ∙ (same_path_lem (path_of (at s.rows j)) path).1 (sym e));
      idle = λ b m. busy m;
    }

pub binds_valid : (s : State) (i : ℕ) (path : List ℕ) (f : File) → Valid s → i < length s.rows → length path ≤ max_path
    → Admits s i (bound path f) → length (registered s.dirs path) ≤ s.chosen.dir_rows → Valid (binds i path f s)
unfolding binds with_row
binds_valid s i path f ok h short a few = registers_valid (with_row i (bound path f) s) path (with_row_valid s i (bound path f) ok h a) short few

-- ---- "Open for writing"

-- What room for a new file means.
pub room_made : (need : ℕ) (path : List ℕ) (cap : ℕ) (ds : List (List ℕ)) (counter : ℕ) → room_for need path cap ds counter ≡ 0
    → (length (registered ds path) ≤ cap) × (counter + need ≤ last_counter)
unfolding room_for
room_made need path cap ds counter z = go (ltb cap (length (registered ds path))) (ltb last_counter (counter + need)) refl refl z
  where
    go : (a b : Bool) → ltb cap (length (registered ds path)) ≡ a → ltb last_counter (counter + need) ≡ b → ◌≡◌ {A = ℕ} (cond a 8 (cond b 9 0)) 0
        → (length (registered ds path) ≤ cap) × (counter + need ≤ last_counter)
    go true b x y o = absurd (omega arith)
    go false true x y o = absurd (omega arith)
    go false false x y o = (ltb-false cap (length (registered ds path)) x, ltb-false last_counter (counter + need) y)

-- And for a slot of its own.
pub admits_means : (path : List ℕ) (s : State) → admits_new path s ≡ 0
    → (0 < length s.queue) × (room_for 1 path s.chosen.dir_rows s.dirs s.counter ≡ 0)
unfolding admits_new
admits_means path s z = go (eqb (length s.queue) 0) refl z
  where
    go : (a : Bool) → eqb (length s.queue) 0 ≡ a → cond a 7 (room_for 1 path s.chosen.dir_rows s.dirs s.counter) ≡ 0
        → (0 < length s.queue) × (room_for 1 path s.chosen.dir_rows s.dirs s.counter ≡ 0)
    go true e o = absurd (omega arith)
    go false e o = (omega (arith, eqb-false (length s.queue) 0 e), o)

module _ (path : List ℕ) (s : State) (ok : Valid s) (some : 0 < length s.queue) (left : s.counter < last_counter) where
  abbrev first : ℕ
  first = get_or s.queue 0 0

  abbrev begun : State
  begun = spent (unqueued s)

  begun_valid : Valid begun
  unfolding unqueued
  begun_valid = spent_valid (unqueued s) (unqueued_valid s ok) left

  pub first_held_lem : first < length s.rows
  first_held_lem = ok.waiting.inside first (first_in s ok some)

  pub created_valid : is_text path ≡ true → length path ≤ max_path → length (registered s.dirs path) ≤ s.chosen.dir_rows
      → length s.rows ≤ find path s.rows → (fine : Bool) → Valid (created path fine s)
  unfolding created spent unqueued
  created_valid t short h new true =
      binds_valid begun first path (file s.counter 0 true) begun_valid first_held_lem short
      (bound_admitted begun first path (file s.counter 0 true) t short (omega arith) (λ j ne. find_none path s.rows j new) (first_gone s ok some)) h
  created_valid t short h new false =
      queued_valid begun begun_valid first first_held_lem (ok.waiting.idle first (first_in s ok some)) (first_gone s ok some)

  pub created_rows : (fine : Bool) → length (created path fine s).rows ≡ length s.rows
  unfolding created binds registers with_dirs with_row queued spent unqueued
  created_rows true = length-set s.rows first (bound path (file s.counter 0 true))
  created_rows false = refl

module _ (plan : List ℕ) (g : Geometry) (w : World) (f : Fit g w) where
  start : Kept g w.dev w.dev
  start = record { shape = f.shape; slots = refl }

  cut_kept : (i : ℕ) → i < length w.state.rows → Kept g w.dev (data_truncate_m plan g i 0 w.dev)
  cut_kept i h = call_kept plan g (truncate i 0) w.dev w.dev start (omega (arith, f.slots))

  pub reopen_fit : (i : ℕ) (keep : Bool) → i < length w.state.rows → Fit g (reopen_m plan g i keep w).left
  unfolding reopen_m
  reopen_fit i true h = f
  reopen_fit i false h = resized_fit g w (data_truncate_m plan g i 0 w.dev) i 0 f (cut_kept i h) h

  module _ (path : List ℕ) (t : is_text path ≡ true) (short : length path ≤ max_path) (new : length w.state.rows ≤ find path w.state.rows) where
    create_fit : 0 < length w.state.queue → w.state.counter < last_counter → length (registered w.state.dirs path) ≤ w.state.chosen.dir_rows
        → Fit g (create_m plan g path w).left
    unfolding create_m
    create_fit some left h =
        let i = get_or w.state.queue 0 0 in
        let d = data_truncate_m plan g i 0 w.dev in
        let k = cut_kept i (first_held_lem path w.state f.valid some left) in
        record {
          valid = created_valid path w.state f.valid some left t short h new (fine_m d);
          shape = k.shape;
          slots = omega (arith, k.slots, f.slots, created_rows path w.state f.valid some left (fine_m d));
        }

    pub open_new_fit : Fit g (open_new_m plan g path w).left
    unfolding open_new_m
    open_new_fit = go (eqb (admits_new path w.state) 0) refl
      where
        go : (a : Bool) → eqb (admits_new path w.state) 0 ≡ a → Fit g (cond a (create_m plan g path w) (outcome (admits_new path w.state) no_handle w)).left
        go true e =
            let m = admits_means path w.state (eqb-true (admits_new path w.state) 0 e) in
            let r = room_made 1 path w.state.chosen.dir_rows w.state.dirs w.state.counter m.1 in
            create_fit m.0 (omega (arith, r.1)) r.0
        go false e = f

  pub open_write_fit : (path : List ℕ) (keep : Bool) → is_text path ≡ true → Fit g (open_write_m plan g path keep w).left
  unfolding open_write_m
  open_write_fit path keep t = go (ltb max_path (length path)) (ltb (find path w.state.rows) (length w.state.rows)) refl refl
    where
      go : (a b : Bool) → ltb max_path (length path) ≡ a → ltb (find path w.state.rows) (length w.state.rows) ≡ b
          → Fit g (cond a (outcome 4 no_handle w) (cond b (reopen_m plan g (find path w.state.rows) keep w) (open_new_m plan g path w))).left
      go true b x y = f
      go false true x y = reopen_fit (find path w.state.rows) keep (ltb-true (find path w.state.rows) (length w.state.rows) y)
      go false false x y = open_new_fit path t (ltb-false max_path (length path) x) (ltb-false (find path w.state.rows) (length w.state.rows) y)

  -- ---- "Remove"

  pub remove_fit : (path : List ℕ) → Fit g (remove_m plan g path w).left
  unfolding remove_m
  remove_fit path = go (ltb (find path w.state.rows) (length w.state.rows)) (ltb last_counter (w.state.counter + 1)) refl refl
    where
      i : ℕ
      i = find path w.state.rows

      go : (a b : Bool) → ltb (find path w.state.rows) (length w.state.rows) ≡ a → ltb last_counter (w.state.counter + 1) ≡ b
          → Fit g (cond a (cond b (outcome {R = None} 9 tt w) (by_device (release_m plan g (find path w.state.rows) w))) (outcome 5 tt w)).left
      go true true x y = f
      go true false x y =
          let h : i < length w.state.rows = ltb-true i (length w.state.rows) x in
          let u : is_bound (at w.state.rows i) ≡ true = holds_bound path (at w.state.rows i) (find_holds path w.state.rows h) in
          release_fit plan g i w f h (λ m. false≢true (sym (f.valid.waiting.idle i m) ∙ u)) (omega (arith, ltb-false last_counter (w.state.counter + 1) y))
      go false b x y = f
