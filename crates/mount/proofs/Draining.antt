-- The loop of `drain`: what is left to release, from here, comes to the whole.
use Prim.Native.Nat.{ℕ, ◌+◌, ◌≤◌, ◌<◌}
use native.Mathlib.Omega.{arith}
use native.Mathlib.Numerals.{add-one}
use mathlib.Core.Path.{◌≡◌, refl, sym, ap, ◌∙◌, subst}
use mathlib.Core.List.{List, [], ◌∷◌}
use lib.ListN.{length, drop, get_or, drop_of_length-le}
use lib.Seq.{drop-cons}
use Rattle.limits.specs.Limits.{last_counter}
use Rattle.lists.specs.Distinct.{In}
use Rattle.device.specs.declared.Geometry.{Geometry}
use Rattle.slot_rows.proofs.InBuffers.{length_rows}
use Rattle.pool_state.specs.State.{view, queue_of}
use Rattle.pool_steps.specs.World.{World, Lent, view_w, flat_w, Ready}
use Rattle.pool_steps.specs.Steps.{release_m}
use Rattle.pool_steps.proofs.Stays.{world_is, ready_fit, lent_stays}
use Rattle.mount.specs.Mount.{drain, Due}
use Rattle.mount.proofs.Stays.{due_first, due_fit, due_next}

pub record Draining (plan : List ℕ) (g : Geometry) (ls : List ℕ) (w : World) (l : Lent) (i : ℕ) : Type 0 where
  pub ready : Ready g l
  pub due : Due (drop i ls) (view_w l)
  pub left : drain plan g (drop i ls) (view_w l) ≡ drain plan g ls w

pub draining_start : (plan : List ℕ) (g : Geometry) (ls : List ℕ) (l : Lent) → Ready g l → Due ls (view_w l) → Draining plan g ls (view_w l) l 0
draining_start plan g ls l R D = record { ready = R; due = D; left = refl }

module _ (plan : List ℕ) (g : Geometry) (xs : List ℕ) (w : World) (l : Lent) (i : ℕ) (D : Draining plan g xs w l i) where
  module _ (h : i < length xs) where
    abbrev x : ℕ
    x = get_or xs i 0

    next : drop i xs ≡ x ∷ drop (i + 1) xs
    next = drop-cons xs i 0 h ∙ rw add-one

    due : Due (x ∷ drop (i + 1) xs) (view_w l)
    due = subst (λ (r : List ℕ). Due r (view_w l)) next D.due

    -- the next loser may be released
    pub draining_first : Ready g l × ((x < l.bufs.pool.held) × (In x (queue_of l.bufs.pool) → ⊥) × (l.bufs.pool.counter < last_counter))
    unfolding view_w view
    draining_first =
        let f = due_first plan g x (drop (i + 1) xs) (view_w l) due in
        (D.ready, (omega (arith, f.0, length_rows l.bufs.nums l.bufs.names l.bufs.pool.held), f.1, f.2))

    pub draining_more : (e : Lent) → e ≡ flat_w (release_m plan g x (view_w l)) → Draining plan g xs w e (i + 1)
    unfolding drain
    draining_more e q =
        let r = drop (i + 1) xs in
        let z = world_is g (release_m plan g x (view_w l)) e (due_fit plan g x r (view_w l) due (ready_fit g l D.ready)) q in
        record {
          ready = z.1;
          due = subst (Due r) (sym z.0) (due_next plan g x r (view_w l) due);
          left = ap (drain plan g r) z.0 ∙ ap (λ (t : List ℕ). drain plan g t (view_w l)) (sym next) ∙ D.left;
        }

  pub draining_done : length xs ≤ i → l ≡ flat_w (drain plan g xs w)
  unfolding drain
  draining_done h =
      let e : drop i xs ≡ [] = drop_of_length-le xs {i = i} h in
      lent_stays l D.ready.pool ∙ ap flat_w (ap (λ (t : List ℕ). drain plan g t (view_w l)) (sym e) ∙ D.left)
