-- "A pool stays a pool": what a rename leaves of a pool with its device, whatever of it failed.
use Prim.Native.Nat.{ℕ, ◌+◌, ◌≤◌, ◌<◌}
use native.Mathlib.Omega.{arith}
use mathlib.Core.Path.{◌≡◌, refl, sym, ap, subst, ◌∙◌}
use mathlib.Core.Logic.{◌≢◌}
use mathlib.Core.Bool.{Bool, true, false, cond, false≢true}
use mathlib.Core.List.{List}
use lib.Dec.{eqb, ltb}
use lib.ListN.{length, length-set}
use borrow.Author.Tests.{eqb-true, lt-ltb, ltb-true, ltb-false}
use Rattle.limits.specs.Limits.{max_path, last_counter}
use Rattle.lists.specs.Distinct.{In}
use Rattle.text.specs.Text.{is_text}
use Rattle.path.specs.Path.{same_path}
use Rattle.path.proofs.Theorems.{same_path_lem}
use Rattle.device.specs.declared.Geometry.{Geometry}
use Rattle.slot_rows.specs.Rows.{file, bound, at, is_bound, path_of, len_of, holds, find}
use Rattle.slot_rows.proofs.Finding.{find_holds, holds_bound, holds_path}
use Rattle.dir_rows.specs.Dirs.{registered}
use Rattle.pool_state.specs.declared.Chosen.{Chosen}
use Rattle.pool_state.specs.State.{State, Valid}
use Rattle.pool_state.specs.Changes.{with_row, with_dirs, with_row_valid}
use Rattle.pool_steps.specs.World.{World, world, Fit}
use Rattle.pool_steps.specs.Steps.{fine_m}
use Rattle.pool_steps.specs.Outcome.{outcome, by_device}
use Rattle.inner_open.specs.Files.{is_file, room_for, registers}
use Rattle.inner_open.proofs.Stays.{registers_valid, bound_admitted, room_made}
use Rattle.inner_rename.specs.declared.Course.{Course}
use Rattle.inner_rename.specs.Rename.{stopped, needs, front_m, rebind_m, vacated_m, settled_m, renamed_m, rename_m}
use Rattle.inner_rename.proofs.PartsStay.{MayGo, rebind_fit, vacated_fit, Stays, vacated_stays, vacated_other, vacated_none, Rebound, rebound}

-- ---- front

-- What it means to go on: the paths differ, `from` is held, and there is room for `to`.
pub record Goes (from to : List ℕ) (s : State) (f : Course) : Type 0 where
  pub short : length to ≤ max_path
  pub differ : same_path from to ≡ false
  pub source : f.from ≡ find from s.rows
  pub target : f.to ≡ find to s.rows
  pub held : find from s.rows < length s.rows
  pub room : room_for (needs to s) to s.chosen.dir_rows s.dirs s.counter ≡ 0

pub front_means : (from to : List ℕ) (s : State) → (front_m from to s).go ≡ true → Goes from to s (front_m from to s)
unfolding front_m
front_means from to s t = first (ltb max_path (length to)) (same_path from to) (ltb i (length s.rows)) (eqb no 0) refl refl refl refl t
  where
    i : ℕ
    i = find from s.rows

    no : ℕ
    no = room_for (needs to s) to s.chosen.dir_rows s.dirs s.counter

    ends : Bool → Bool → Bool → Bool → Course
    ends a b c d =
        cond a (stopped 4)
        (cond b (stopped (cond c 0 5)) (cond c (cond d (record { out = 0; go = true; from = i; to = find to s.rows }) (stopped no)) (stopped 5)))

    first : (a b c d : Bool) → ltb max_path (length to) ≡ a → same_path from to ≡ b → ltb i (length s.rows) ≡ c → eqb no 0 ≡ d
        → (ends a b c d).go ≡ true → Goes from to s (ends a b c d)
    first true b c d x q y z o = absurd (false≢true o)
    first false true c d x q y z o = absurd (false≢true o)
    first false false true true x q y z o =
        record {
          short = ltb-false max_path (length to) x;
          differ = q;
          source = refl;
          target = refl;
          held = ltb-true i (length s.rows) y;
          room = eqb-true no 0 z;
        }
    first false false true false x q y z o = absurd (false≢true o)
    first false false false d x q y z o = absurd (false≢true o)

-- ---- the steps of a rename that goes on

module _ (plan : List ℕ) (g : Geometry) (from to : List ℕ) (w : World) (f : Fit g w) (c : Course) (G : Goes from to w.state c) where
  abbrev s : State
  s = w.state

  pub from_held : c.from < length s.rows
  from_held = omega (arith, G.source, G.held)

  pub from_bound : is_bound (at s.rows c.from) ≡ true
  from_bound =
      subst (λ (k : ℕ). is_bound (at s.rows k) ≡ true) (sym G.source) (holds_bound from (at s.rows (find from s.rows)) (find_holds from s.rows G.held))

  pub room : (length (registered s.dirs to) ≤ s.chosen.dir_rows) × (s.counter + needs to s ≤ last_counter)
  room = room_made (needs to s) to s.chosen.dir_rows s.dirs s.counter G.room

  some : (x : Bool) → 1 ≤ cond x 2 1
  some true = omega arith
  some false = omega arith

  pub left : s.counter < last_counter
  left = omega (arith, room.1, some (is_file to s))

  -- The header of the file with its new path,
  abbrev v : World
  v = rebind_m plan g c.from to w

  pub rebound_fit : Fit g v
  rebound_fit = rebind_fit plan g w f c.from to from_held left

  after : Rebound s v.state
  after = rebound plan g c.from to w

  -- and the holder of `to`, which is bound, and for which a second generation is left.
  pub to_may_go : MayGo c.to v.state
  to_may_go h =
      let j = find to s.rows in
      let k : j < length s.rows = omega (arith, G.target, after.rows) in
      let n : s.counter + 2 ≤ last_counter = subst (λ (x : Bool). s.counter + cond x 2 1 ≤ last_counter) (lt-ltb j (length s.rows) k) room.1 in
      let o : is_bound (at s.rows j) ≡ true = holds_bound to (at s.rows j) (find_holds to s.rows k) in (
        λ m. false≢true
            (sym (f.valid.waiting.idle j (subst (λ (x : ℕ). In x s.queue) G.target (subst (λ (q : List ℕ). In c.to q) after.queue m))) ∙ o),
        omega (arith, after.counter, n),
      )

  abbrev u : World
  u = vacated_m plan g c.to v

  u_fit : Fit g u
  u_fit = vacated_fit plan g v rebound_fit c.to to_may_go

  stay : Stays v.state u.state
  stay = vacated_stays plan g c.to v

  -- one slot cannot hold two paths that differ
  two_slots : c.from ≢ c.to
  two_slots e =
      let i = find from s.rows in
      let d : i ≡ find to s.rows = sym G.source ∙ e ∙ G.target in
      let a = find_holds from s.rows G.held in
      let b = subst (λ (k : ℕ). holds to (at s.rows k) ≡ true) (sym d) (find_holds to s.rows (omega (arith, G.held))) in
      let o = holds_bound from (at s.rows i) a in
      let p = path_of (at s.rows i) in
      let x = (same_path_lem p from).0 (sym (holds_path from (at s.rows i) o) ∙ a) in
      let y = (same_path_lem p to).0 (sym (holds_path to (at s.rows i) o) ∙ b) in
      false≢true (sym G.differ ∙ (same_path_lem from to).1 (sym x ∙ y))

  -- the slot of `from` is bound, and so not free
  busy : In c.from u.state.queue → ⊥
  busy m =
      let i = find from v.state.rows in
      let e : c.from ≡ i = G.source ∙ sym (after.find from) in
      let h : i < length v.state.rows = omega (arith, after.rows, after.find from, G.held) in
      let b : is_bound (at v.state.rows c.from) ≡ true =
      subst (λ (k : ℕ). is_bound (at v.state.rows k) ≡ true) (sym e) (holds_bound from (at v.state.rows i) (find_holds from v.state.rows h)) in
      false≢true (sym (u_fit.valid.waiting.idle c.from m) ∙ ap is_bound (vacated_other plan g c.to v c.from two_slots) ∙ b)

  -- no row holds `to` any more
  free : (k : ℕ) → holds to (at u.state.rows k) ≡ false
  free k =
      subst (λ (j : ℕ). holds to (at (vacated_m plan g j v).state.rows k) ≡ false) (after.find to ∙ sym G.target) (vacated_none plan g to v rebound_fit.valid k)

  module _ (t : is_text to ≡ true) (len : ℕ) where
    abbrev bound_state : State
    bound_state = with_row c.from (bound to (file s.counter len false)) u.state

    bound_valid : Valid bound_state
    bound_valid =
        let x = file s.counter len false in
        with_row_valid u.state c.from (bound to x) u_fit.valid (omega (arith, from_held, after.rows, stay.rows))
        (bound_admitted u.state c.from to x t G.short (omega (arith, after.counter, stay.counter)) (λ k ne. free k) busy)

    pub settled_fit : Fit g (settled_m plan g c.from c.to to s.counter len v).left
    unfolding settled_m with_row with_dirs registers
    settled_fit = go (fine_m u.dev)
      where
        slots : length bound_state.rows ≤ length u.dev.phys
        slots = omega (arith, u_fit.slots, length-set u.state.rows c.from (bound to (file s.counter len false)))

        fits : length (registered bound_state.dirs to) ≤ bound_state.chosen.dir_rows
        fits =
            let n = ap (λ (ds : List (List ℕ)). length (registered ds to)) (stay.dirs ∙ after.dirs) in
            let m = ap (λ (x : Chosen). x.dir_rows) (stay.chosen ∙ after.chosen) in
            omega (arith, n, m, room.0)

        go : (x : Bool) → Fit g (world u.dev (cond x (registers to bound_state) bound_state))
        go true = record { valid = registers_valid bound_state to bound_valid G.short fits; shape = u_fit.shape; slots = slots }
        go false = record { valid = bound_valid; shape = u_fit.shape; slots = slots }

  pub renamed_fit : is_text to ≡ true → Fit g (renamed_m plan g c.from c.to to w).left
  unfolding renamed_m
  renamed_fit t = go (fine_m v.dev)
    where
      go : (x : Bool) → Fit g (cond x (settled_m plan g c.from c.to to s.counter (len_of (at s.rows c.from)) v) (by_device v)).left
      go true = settled_fit t (len_of (at s.rows c.from))
      go false = rebound_fit

-- ---- the whole rename

pub rename_fit : (plan : List ℕ) (g : Geometry) (from to : List ℕ) (w : World) → Fit g w → is_text to ≡ true → Fit g (rename_m plan g from to w).left
unfolding rename_m
rename_fit plan g from to w f t = go F.go refl
  where
    F : Course
    F = front_m from to w.state

    go : (x : Bool) → F.go ≡ x → Fit g (cond x (renamed_m plan g F.from F.to to w) (outcome F.out tt w)).left
    go true e = renamed_fit plan g from to w f F (front_means from to w.state e) t
    go false e = f
