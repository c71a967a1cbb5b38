-- Which inner calls leave each live handle live, an open for writing and a rename whose own put fails; and which make a handle stale,
-- a remove and a rename whose own header was written and flushed.
use Prim.Native.Nat.{ℕ, ◌+◌, ◌<◌}
use native.Mathlib.Omega.{arith}
use native.Mathlib.Decide.{ℕ_discrete}
use mathlib.Core.Path.{◌≡◌, refl, sym, ap, subst, ◌∙◌}
use mathlib.Core.Logic.{◌⊎◌, inl, inr, ⊎_elim}
use mathlib.Core.Bool.{Bool, true, false, cond, false≢true}
use mathlib.Core.List.{List}
use lib.Dec.{eqb, ltb}
use lib.ListN.{length, set, get_or, length-set}
use lib.Seq.{get_or-set_same, get_or-set_other}
use borrow.Author.Tests.{eq-eqb, eqb-true, eqb-false, lt-ltb, ltb-true}
use Rattle.limits.specs.Limits.{max_path, last_counter}
use Rattle.path.specs.Path.{same_path}
use Rattle.header.specs.Block.{bound_header, encoded}
use Rattle.device.specs.declared.Geometry.{Geometry}
use Rattle.device.specs.Device.{Dev, data_truncate_m}
use Rattle.slot_rows.specs.Rows.{Row, file, bound, none, at, is_bound, gen_of, len_of, resized, find}
use Rattle.dir_rows.specs.Dirs.{registered}
use Rattle.pool_state.specs.State.{State, Valid}
use Rattle.pool_state.specs.Queue.{queued, unqueued, spent}
use Rattle.pool_state.specs.Changes.{with_row, with_dirs}
use Rattle.pool_state.specs.InBuffers.{first_in}
use Rattle.pool_steps.specs.World.{World}
use Rattle.pool_steps.specs.Steps.{fine_m, put_m, release_m}
use Rattle.pool_steps.specs.Outcome.{Outcome, outcome, None, by_device}
use Rattle.pool_steps.proofs.Stays.{release_row}
use Rattle.pool_steps.proofs.Numbers.{either}
use Rattle.inner_handle.specs.Handles.{is_live, resized_m}
use Rattle.inner_handle.proofs.Stays.{live_means}
use Rattle.inner_open.specs.Files.{is_file, room_for, registers, binds, Handle, no_handle, reopen_m, created, create_m, admits_new, open_new_m}
use Rattle.inner_open.specs.Files.{open_write_m, remove_m}
use Rattle.inner_open.proofs.Stays.{admits_means}
use Rattle.inner_rename.specs.declared.Course.{Course}
use Rattle.inner_rename.specs.Rename.{stopped, needs, front_m, rebind_m, vacated_m, settled_m, renamed_m, rename_m}
use Rattle.inner_rename.proofs.PartsStay.{vacated_stays, rebound}
use Rattle.inner_rename.proofs.Stays.{Goes, front_means}
use Rattle.calls_gate.specs.Refusals.{NotRefused}
use Rattle.calls_gate.proofs.Fates.{unbound_stale, renewed_stale, same_stale}
use Rattle.calls_gate.proofs.Fates.{Steady, steady_same, steady_put, resized_lasts}

-- ---- each live handle stays

abbrev pub StaysW : World → World → Type 0
StaysW w v = Steady w.state.rows v.state.rows

pub resize_steady : (d : Dev) (i n : ℕ) (s : State) → Steady s.rows (resized_m d i n s).state.rows
unfolding resized_m with_row
resize_steady d i n s =
    let r = at s.rows i in
    either (λ (t : State). Steady s.rows t.rows) (fine_m d) {x = with_row i (resized n true r) s} {y = s}
    (steady_put s.rows i (resized n true r) (resized_lasts n true r)) (steady_same s.rows)

-- a new file's slot was free
created_steady : (path : List ℕ) (fine : Bool) (s : State) → Valid s → 0 < length s.queue → Steady s.rows (created path fine s).rows
unfolding created binds registers with_dirs with_row queued spent unqueued
created_steady path true s ok some =
    let i = get_or s.queue 0 0 in
    steady_put s.rows i (bound path (file s.counter 0 true))
    (λ b. absurd (false≢true (sym (ok.waiting.idle i (first_in s ok some)) ∙ b)))
created_steady path false s ok some = steady_same s.rows

module _ (plan : List ℕ) (g : Geometry) where
  pub open_write_steady : (path : List ℕ) (keep : Bool) (w : World) → Valid w.state → StaysW w (open_write_m plan g path keep w).left
  unfolding open_write_m reopen_m open_new_m create_m
  open_write_steady path keep w ok =
      let P : Outcome Handle World → Type 0 = λ o. StaysW w o.left in
      let i = find path w.state.rows in
      either P (ltb max_path (length path)) (steady_same w.state.rows)
      (either P (is_file path w.state)
      (either P keep (steady_same w.state.rows) (resize_steady (data_truncate_m plan g i 0 w.dev) i 0 w.state))
      (go (eqb (admits_new path w.state) 0) refl))
    where
      go : (t : Bool) → eqb (admits_new path w.state) 0 ≡ t
          → StaysW w (cond t (create_m plan g path w) (outcome (admits_new path w.state) no_handle w)).left
      go true e = created_steady path _ w.state ok (admits_means path w.state (eqb-true (admits_new path w.state) 0 e)).0
      go false e = steady_same w.state.rows

  rebind_steady : (i : ℕ) (to : List ℕ) (w : World) → StaysW w (rebind_m plan g i to w)
  unfolding rebind_m spent with_row
  rebind_steady i to w =
      let s = w.state in
      let r = at s.rows i in
      either (λ (t : State). Steady s.rows t.rows)
      (fine_m (put_m plan g i (encoded (bound_header (length to) (len_of r) s.counter) to) w.dev))
      {x = s} {y = with_row i (resized (len_of r) true r) s} (steady_same s.rows)
      (steady_put s.rows i (resized (len_of r) true r) (resized_lasts (len_of r) true r))

  pub rename_steady : (from to : List ℕ) (w : World) → fine_m (rebind_m plan g (find from w.state.rows) to w).dev ≡ false
      → StaysW w (rename_m plan g from to w).left
  unfolding rename_m renamed_m
  rename_steady from to w e = go f.go refl
    where
      f : Course
      f = front_m from to w.state

      go : (t : Bool) → f.go ≡ t → StaysW w (cond t (renamed_m plan g f.from f.to to w) (outcome f.out tt w)).left
      go true q =
          let G = front_means from to w.state q in
          let z : fine_m (rebind_m plan g f.from to w).dev ≡ false =
          ap (λ (i : ℕ). fine_m (rebind_m plan g i to w).dev) G.source ∙ e in
          rw z (rebind_steady f.from to w)
      go false q = steady_same w.state.rows

-- ---- what makes a handle stale

-- A number from 1 to 9 is a refusal.
pub refuses : (n : ℕ) → 0 < n → n < 10 → NotRefused n → ⊥
refuses n a b (inl e) = omega arith
refuses n a b (inr (inl e)) = omega arith
refuses n a b (inr (inr e)) = omega arith

module _ (plan : List ℕ) (g : Geometry) where
  release_stale : (i generation : ℕ) (w : World) → i < length w.state.rows
      → is_live i generation (release_m plan g i w).state.rows ≡ false
  unfolding is_bound
  release_stale i generation w h = unbound_stale i generation _ (ap is_bound (release_row plan g i w h))

  pub remove_stale : (path : List ℕ) (w : World) (generation : ℕ) → NotRefused (remove_m plan g path w).out
      → is_live (find path w.state.rows) generation (remove_m plan g path w).left.state.rows ≡ false
  unfolding remove_m
  remove_stale path w generation n = go (is_file path w.state) (ltb last_counter (w.state.counter + 1)) refl n
    where
      i : ℕ
      i = find path w.state.rows

      ends : Bool → Bool → Outcome None World
      ends a b = cond a (cond b (outcome 9 tt w) (by_device (release_m plan g i w))) (outcome 5 tt w)

      go : (a b : Bool) → is_file path w.state ≡ a → NotRefused (ends a b).out
          → is_live i generation (ends a b).left.state.rows ≡ false
      go true true e n = absurd (refuses 9 (omega arith) (omega arith) n)
      go true false e n = release_stale i generation w (ltb-true i (length w.state.rows) e)
      go false b e n = absurd (refuses 5 (omega arith) (omega arith) n)

-- what a rename between different paths is stopped by is a refusal
room_small : (need : ℕ) (path : List ℕ) (cap : ℕ) (ds : List (List ℕ)) (counter : ℕ) → room_for need path cap ds counter < 10
unfolding room_for
room_small need path cap ds counter =
    either (λ (n : ℕ). n < 10) (ltb cap (length (registered ds path))) {x = 8} (omega arith)
    (either (λ (n : ℕ). n < 10) (ltb last_counter (counter + need)) {x = 9} {y = 0} (omega arith) (omega arith))

front_stops : (from to : List ℕ) (s : State) → same_path from to ≡ false → (front_m from to s).go ≡ false
    → NotRefused (front_m from to s).out → ⊥
unfolding front_m
front_stops from to s d q n = go (ltb max_path (length to)) (same_path from to) (is_file from s) (eqb no 0) d refl q n
  where
    no : ℕ
    no = room_for (needs to s) to s.chosen.dir_rows s.dirs s.counter

    ends : Bool → Bool → Bool → Bool → Course
    ends a b c e =
        cond a (stopped 4)
        (cond b (stopped (cond c 0 5))
        (cond c (cond e (record { out = 0; go = true; from = find from s.rows; to = find to s.rows }) (stopped no)) (stopped 5)))

    go : (a b c e : Bool) → b ≡ false → eqb no 0 ≡ e → (ends a b c e).go ≡ false → NotRefused (ends a b c e).out → ⊥
    go true b c e x z o n = refuses 4 (omega arith) (omega arith) n
    go false true c e x z o n = false≢true (sym x)
    go false false true true x z o n = false≢true (sym o)
    go false false true false x z o n =
        refuses no (omega (arith, eqb-false no 0 z)) (room_small (needs to s) to s.chosen.dir_rows s.dirs s.counter) n
    go false false false e x z o n = refuses 5 (omega arith) (omega arith) n

module _ (plan : List ℕ) (g : Geometry) where
  settled_rows : (i j : ℕ) (to : List ℕ) (generation len : ℕ) (w : World)
      → (settled_m plan g i j to generation len w).left.state.rows
      ≡ set (vacated_m plan g j w).state.rows i (bound to (file generation len false))
  unfolding settled_m registers with_dirs with_row
  settled_rows i j to generation len w =
      let u = vacated_m plan g j w in
      let r = bound to (file generation len false) in
      let s = with_row i r u.state in
      either (λ (t : State). t.rows ≡ set u.state.rows i r) (fine_m u.dev) {x = registers to s} {y = s} refl refl

  vacated_stale : (j generation : ℕ) (w : World) → j < length w.state.rows
      → is_live j generation (vacated_m plan g j w).state.rows ≡ false
  unfolding vacated_m
  vacated_stale j generation w h = rw (lt-ltb j (length w.state.rows) h) (release_stale plan g j generation w h)

  -- the row of `from` is under a new generation, and that of the old `to` is unbound
  settled_stale : (i j : ℕ) (to : List ℕ) (len : ℕ) (w v : World) (slot generation : ℕ) → Valid w.state
      → length v.state.rows ≡ length w.state.rows → (slot ≡ i) ⊎ (slot ≡ j)
      → is_live slot generation w.state.rows ≡ true
      → is_live slot generation (settled_m plan g i j to w.state.counter len v).left.state.rows ≡ false
  unfolding gen_of
  settled_stale i j to len w v slot generation ok n which live =
      subst (λ (rs : List Row). is_live slot generation rs ≡ false) (sym (settled_rows i j to w.state.counter len v))
      (go which (ℕ_discrete slot i))
    where
      us : List Row
      us = (vacated_m plan g j v).state.rows

      r : Row
      r = bound to (file w.state.counter len false)

      m : (slot < length w.state.rows) × (is_bound (at w.state.rows slot) ≡ true) × (gen_of (at w.state.rows slot) ≡ generation)
      m = live_means slot generation w.state.rows live

      same_long : length us ≡ length w.state.rows
      same_long = (vacated_stays plan g j v).rows ∙ n

      at_from : slot ≡ i → is_live slot generation (set us i r) ≡ false
      at_from e =
          let q : at (set us i r) slot ≡ r = ap (at (set us i r)) e ∙ get_or-set_same us i r none (omega (arith, m.0, same_long)) in
          let k : gen_of (at (set us i r) slot) ≡ w.state.counter = ap gen_of q in
          renewed_stale slot generation (set us i r) (λ z. omega (arith, k, z, m.2, ok.slots.young slot))

      at_to : (slot ≡ i → ⊥) → slot ≡ j → is_live slot generation (set us i r) ≡ false
      at_to ne e =
          let h : j < length v.state.rows = omega (arith, m.0, n) in
          let x : is_live slot generation us ≡ false =
          subst (λ (k : ℕ). is_live k generation us ≡ false) (sym e) (vacated_stale j generation v h) in
          same_stale slot generation us (set us i r) (sym (length-set us i r)) (get_or-set_other us i slot r none ne) x

      go : (slot ≡ i) ⊎ (slot ≡ j) → Dec (slot ≡ i) → is_live slot generation (set us i r) ≡ false
      go (inl e) d = at_from e
      go (inr e) (yes z) = at_from z
      go (inr e) (no ne) = at_to ne e

  -- a rename between different paths that comes to 0 has done its own put
  pub rename_put : (from to : List ℕ) (w : World) → (rename_m plan g from to w).out ≡ 0 → same_path from to ≡ false
      → fine_m (rebind_m plan g (find from w.state.rows) to w).dev ≡ true
  unfolding rename_m renamed_m
  rename_put from to w z d = go f.go refl z
    where
      f : Course
      f = front_m from to w.state

      v : World
      v = rebind_m plan g f.from to w

      len : ℕ
      len = len_of (at w.state.rows f.from)

      done : (t : Bool) → fine_m v.dev ≡ t
          → (cond t (settled_m plan g f.from f.to to w.state.counter len v) (by_device v)).out ≡ 0 → fine_m v.dev ≡ true
      done true e z = e
      done false e z = eq-eqb v.dev.place.last 0 z

      go : (t : Bool) → f.go ≡ t → (cond t (renamed_m plan g f.from f.to to w) (outcome f.out tt w)).out ≡ 0
          → fine_m (rebind_m plan g (find from w.state.rows) to w).dev ≡ true
      go true q z =
          let G = front_means from to w.state q in
          ap (λ (i : ℕ). fine_m (rebind_m plan g i to w).dev) (sym G.source) ∙ done (fine_m v.dev) refl z
      go false q z = absurd (front_stops from to w.state d q (inl z))

  pub rename_stale : (from to : List ℕ) (w : World) (slot generation : ℕ) → Valid w.state → NotRefused (rename_m plan g from to w).out
      → same_path from to ≡ false → fine_m (rebind_m plan g (find from w.state.rows) to w).dev ≡ true
      → (slot ≡ find from w.state.rows) ⊎ (slot ≡ find to w.state.rows) → is_live slot generation w.state.rows ≡ true
      → is_live slot generation (rename_m plan g from to w).left.state.rows ≡ false
  unfolding rename_m renamed_m
  rename_stale from to w slot generation ok n d e which live = go f.go refl n
    where
      f : Course
      f = front_m from to w.state

      goes : Bool → Outcome None World
      goes t = cond t (renamed_m plan g f.from f.to to w) (outcome f.out tt w)

      here : Goes from to w.state f → (slot ≡ f.from) ⊎ (slot ≡ f.to)
      here G = ⊎_elim (λ x. inl (x ∙ sym G.source)) (λ x. inr (x ∙ sym G.target)) which

      go : (t : Bool) → f.go ≡ t → NotRefused (goes t).out → is_live slot generation (goes t).left.state.rows ≡ false
      go true q n =
          let G = front_means from to w.state q in
          let v = rebind_m plan g f.from to w in
          let z : fine_m v.dev ≡ true = ap (λ (i : ℕ). fine_m (rebind_m plan g i to w).dev) G.source ∙ e in
          let len = len_of (at w.state.rows f.from) in
          let long = (rebound plan g f.from to w).rows in
          rw z (settled_stale f.from f.to to len w v slot generation ok long (here G) live)
      go false q n = absurd (front_stops from to w.state d q n)
