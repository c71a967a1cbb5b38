-- Opens and handles: an open for writing leaves each live handle live (`open_keeps`), and an open that is done tells a live one
-- (`open_write_tells`, `open_read_tells`).
use Prim.Native.Nat.{ℕ, ◌<◌}
use native.Mathlib.Omega.{arith}
use mathlib.Core.Path.{◌≡◌, refl, sym, ap, subst, ◌∙◌}
use mathlib.Core.Bool.{Bool, true, false, cond, false≢true}
use mathlib.Core.List.{List}
use lib.Dec.{eqb, ltb}
use lib.ListN.{length, get_or, length-set}
use lib.Seq.{get_or-set_same}
use borrow.Author.Tests.{eq-eqb, eqb-true, ltb-true}
use Rattle.limits.specs.Limits.{max_path}
use Rattle.device.specs.declared.Geometry.{Geometry}
use Rattle.device.specs.Device.{Dev, data_truncate_m}
use Rattle.slot_rows.specs.Rows.{Row, file, bound, none, at, is_bound, gen_of, find}
use Rattle.slot_rows.proofs.Finding.{find_holds, holds_bound}
use Rattle.pool_state.specs.State.{State, Valid, view}
use Rattle.pool_state.specs.Queue.{queued, unqueued, spent}
use Rattle.pool_state.specs.Changes.{with_row, with_dirs}
use Rattle.pool_state.specs.InBuffers.{view_flat}
use Rattle.pool_steps.specs.World.{World, Lent, view_w, flat_w}
use Rattle.pool_steps.specs.Steps.{fine_m}
use Rattle.pool_steps.specs.Outcome.{Outcome, outcome, flat_o}
use Rattle.inner_handle.specs.Handles.{is_live, resized_m}
use Rattle.inner_open.specs.Files.{is_file, registers, binds, Handle, handle, no_handle, open_read_m, reopen_m, created, create_m}
use Rattle.inner_open.specs.Files.{admits_new, open_new_m, open_write_m}
use Rattle.inner_open.proofs.Stays.{room_made, admits_means, first_held_lem, open_write_fit}
use Rattle.calls_gate.specs.declared.Call.{Call}
use Rattle.calls_gate.specs.declared.Opening.{Opening}
use Rattle.calls_gate.specs.declared.Call.TheVariants.{OpenWrite, OpenRead}
use Rattle.calls_gate.specs.Table.{takes_of, refusal_of}
use Rattle.calls_gate.specs.Calls.{inner_m}
use Rattle.calls_gate.proofs.Passed.{passed, text_of}
use Rattle.calls_gate.proofs.Fates.{live_is, steady_live}
use Rattle.calls_gate.proofs.InnerSteady.{resize_steady, open_write_steady}
use Rattle.calls_gate.proofs.Onward.{fits}

-- the handle of a held path is live
found_live : (path : List ℕ) (rs : List Row) → find path rs < length rs → is_live (find path rs) (gen_of (at rs (find path rs))) rs ≡ true
found_live path rs h = live_is (find path rs) _ rs h (holds_bound path (at rs (find path rs)) (find_holds path rs h)) refl

-- An open tells a handle that is live in the pool that it leaves.
abbrev Gives : Outcome Handle World → Type 0
Gives o = is_live o.results.slot o.results.generation o.left.state.rows ≡ true

not_zero : {A : Type 0} (n : ℕ) → n ≡ 0 → eqb n 0 ≡ false → A
not_zero n z e = absurd (false≢true (sym e ∙ eq-eqb n 0 z))

module _ (plan : List ℕ) (g : Geometry) (path : List ℕ) (w : World) (ok : Valid w.state) where
  reopen_gives : (i : ℕ) (keep : Bool) → is_live i (gen_of (at w.state.rows i)) w.state.rows ≡ true → (reopen_m plan g i keep w).out ≡ 0
      → Gives (reopen_m plan g i keep w)
  unfolding reopen_m
  reopen_gives i true live z = live
  reopen_gives i false live z = go (fine_m d) refl
    where
      d : Dev
      d = data_truncate_m plan g i 0 w.dev

      told : Bool → Handle
      told t = cond t (handle i (gen_of (at w.state.rows i)) 0) no_handle

      go : (t : Bool) → fine_m d ≡ t → is_live (told t).slot (told t).generation (resized_m d i 0 w.state).state.rows ≡ true
      go true e =
          let rs = w.state.rows in
          steady_live rs (resized_m d i 0 w.state).state.rows i (gen_of (at rs i)) (resize_steady d i 0 w.state) live
      go false e = not_zero d.place.last z e

  created_live : (some : 0 < length w.state.queue) → get_or w.state.queue 0 0 < length w.state.rows
      → is_live (get_or w.state.queue 0 0) w.state.counter (created path true w.state).rows ≡ true
  unfolding created binds registers with_dirs with_row queued spent unqueued is_bound gen_of
  created_live some h =
      let s = w.state in
      let i = get_or s.queue 0 0 in
      let r = bound path (file s.counter 0 true) in
      let q = get_or-set_same s.rows i r none h in
      live_is i s.counter _ (omega (arith, length-set s.rows i r)) (ap is_bound q) (ap gen_of q)

  create_gives : 0 < length w.state.queue → get_or w.state.queue 0 0 < length w.state.rows → (create_m plan g path w).out ≡ 0
      → Gives (create_m plan g path w)
  unfolding create_m
  create_gives some h z = go (fine_m d) refl
    where
      i : ℕ
      i = get_or w.state.queue 0 0

      d : Dev
      d = data_truncate_m plan g i 0 w.dev

      told : Bool → Handle
      told t = cond t (handle i w.state.counter 0) no_handle

      go : (t : Bool) → fine_m d ≡ t → is_live (told t).slot (told t).generation (created path t w.state).rows ≡ true
      go true e = created_live some h
      go false e = not_zero d.place.last z e

  open_new_gives : (open_new_m plan g path w).out ≡ 0 → Gives (open_new_m plan g path w)
  unfolding open_new_m
  open_new_gives = go (eqb (admits_new path w.state) 0) refl
    where
      ends : Bool → Outcome Handle World
      ends t = cond t (create_m plan g path w) (outcome (admits_new path w.state) no_handle w)

      go : (t : Bool) → eqb (admits_new path w.state) 0 ≡ t → (ends t).out ≡ 0 → Gives (ends t)
      go true e z =
          let s = w.state in
          let m = admits_means path s (eqb-true (admits_new path s) 0 e) in
          let r = room_made 1 path s.chosen.dir_rows s.dirs s.counter m.1 in
          create_gives m.0 (first_held_lem path s ok m.0 (omega (arith, r.1))) z
      go false e z = not_zero (admits_new path w.state) z e

  open_write_gives : (keep : Bool) → (open_write_m plan g path keep w).out ≡ 0 → Gives (open_write_m plan g path keep w)
  unfolding open_write_m
  open_write_gives keep = go (ltb max_path (length path)) (is_file path w.state) refl
    where
      i : ℕ
      i = find path w.state.rows

      ends : Bool → Bool → Outcome Handle World
      ends a b = cond a (outcome 4 no_handle w) (cond b (reopen_m plan g i keep w) (open_new_m plan g path w))

      go : (a b : Bool) → is_file path w.state ≡ b → (ends a b).out ≡ 0 → Gives (ends a b)
      go true b e z = absurd (omega arith)
      go false true e z = reopen_gives i keep (found_live path w.state.rows (ltb-true i (length w.state.rows) e)) z
      go false false e z = open_new_gives z

open_read_gives : (path : List ℕ) (s : State) → (open_read_m path s).out ≡ 0
    → is_live (open_read_m path s).slot (open_read_m path s).generation s.rows ≡ true
unfolding open_read_m
open_read_gives path s = go (is_file path s) refl
  where
    i : ℕ
    i = find path s.rows

    go : (t : Bool) → is_file path s ≡ t → ◌≡◌ {A = ℕ} (cond t 0 5) 0
        → is_live (cond t i 0) (cond t (gen_of (at s.rows i)) 0) s.rows ≡ true
    go true e z = found_live path s.rows (ltb-true i (length s.rows) e)
    go false e z = absurd (omega arith)

-- ---- the calls

module _ (plan : List ℕ) (g : Geometry) (path two buf : List ℕ) (l : Lent) where
  pub open_keeps : (how : Opening) → refusal_of g (OpenWrite how) path two l ≡ 0 → (slot generation : ℕ)
      → is_live slot generation (view l.bufs).rows ≡ true
      → is_live slot generation (view (inner_m plan g (OpenWrite how) path two buf l).left.bufs).rows ≡ true
  unfolding takes_of inner_m flat_o flat_w view_w
  open_keeps how z slot generation live =
      let f = fits plan g path two buf l (OpenWrite how) z refl in
      let t = passed g (OpenWrite how) path two l z refl in
      let o = open_write_m plan g path how.keep (view_w l) in
      let F = open_write_fit plan g (view_w l) f path how.keep (text_of path t.2) in
      subst (λ (s : State). is_live slot generation s.rows ≡ true) (sym (view_flat o.left.state F.valid))
      (steady_live (view l.bufs).rows o.left.state.rows slot generation
      (open_write_steady plan g path how.keep (view_w l) f.valid) live)

  -- A call tells a handle that is live in what it leaves.
  abbrev pub Tells : Call → Type 0
  Tells c =
      let x = inner_m plan g c path two buf l in
      is_live x.told.slot x.told.generation (view x.left.bufs).rows ≡ true

  pub open_write_tells : (how : Opening) → refusal_of g (OpenWrite how) path two l ≡ 0
      → (inner_m plan g (OpenWrite how) path two buf l).number ≡ 0 → Tells (OpenWrite how)
  unfolding takes_of inner_m flat_o flat_w view_w
  open_write_tells how n z =
      let f = fits plan g path two buf l (OpenWrite how) n refl in
      let o = open_write_m plan g path how.keep (view_w l) in
      let F = open_write_fit plan g (view_w l) f path how.keep (text_of path (passed g (OpenWrite how) path two l n refl).2) in
      let live = open_write_gives plan g path (view_w l) f.valid how.keep z in
      let back = sym (view_flat o.left.state F.valid) in
      subst (λ (s : State). is_live o.results.slot o.results.generation s.rows ≡ true) back live

  pub open_read_tells : (inner_m plan g OpenRead path two buf l).number ≡ 0 → Tells OpenRead
  unfolding inner_m
  open_read_tells z = open_read_gives path (view l.bufs) z
