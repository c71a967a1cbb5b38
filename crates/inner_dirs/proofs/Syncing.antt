-- The loop of sync_dir: what is left to sync, from here, comes to the whole.
use Prim.Native.Nat.{ℕ, ◌+◌, ◌-◌, ◌≤◌, ◌<◌}
use native.Mathlib.Omega.{arith}
use mathlib.Core.Path.{◌≡◌, sym, ap, ◌∙◌}
use mathlib.Core.Logic.{◌≢◌}
use mathlib.Core.Bool.{true, false}
use mathlib.Core.List.{List, ◌∷◌}
use lib.ListN.{length}
use lib.Dec.{eqb}
use borrow.Author.Tests.{eq-eqb, ne_eqb}
use Rattle.lists.specs.Runs.{range, range_more, range_end, from_start}
use Rattle.device.specs.declared.Geometry.{Geometry}
use Rattle.slot_rows.proofs.InBuffers.{length_rows}
use Rattle.pool_state.specs.State.{view}
use Rattle.pool_steps.specs.World.{World, Lent, view_w, flat_w, Ready}
use Rattle.pool_steps.proofs.Stays.{world_is, ready_fit}
use Rattle.pool_steps.specs.Outcome.{Outcome, outcome, flat_o, None}
use Rattle.inner_handle.proofs.Stays.{stays}
use Rattle.inner_dirs.specs.Folders.{sync_one_m, sync_each_m, sync_dir_m}
use Rattle.inner_dirs.proofs.Stays.{sync_one_fit}

pub record Syncing (plan : List ℕ) (g : Geometry) (path : List ℕ) (n : ℕ) (w : World) (l : Lent) (i : ℕ) : Type 0 where
  pub ready : Ready g l
  pub left : sync_each_m plan g path (range i (n - i)) (view_w l) ≡ sync_dir_m plan g path w

pub syncing_start : (plan : List ℕ) (g : Geometry) (path : List ℕ) (l : Lent) → Ready g l → Syncing plan g path l.bufs.pool.held (view_w l) l 0
unfolding sync_dir_m view_w view
syncing_start plan g path l R =
    let n = length_rows l.bufs.nums l.bufs.names l.bufs.pool.held in
    record { ready = R; left = ap (λ (is : List ℕ). sync_each_m plan g path is (view_w l)) (sym (from_start range l.bufs.pool.held) ∙ ap (range 0) (sym n)) }

module _ (plan : List ℕ) (g : Geometry) (path : List ℕ) (n : ℕ) (w : World) (l : Lent) (i : ℕ) (S : Syncing plan g path n w l i) where
  module _ (h : i < n) (x : ℕ) (e : Lent) (q : outcome x tt e ≡ flat_o (sync_one_m plan g path i (view_w l))) where
    abbrev one : Outcome None World
    one = sync_one_m plan g path i (view_w l)

    abbrev rest : List ℕ
    rest = range (i + 1) (n - (i + 1))

    next : sync_each_m plan g path (i ∷ rest) (view_w l) ≡ sync_dir_m plan g path w
    next = ap (λ (is : List ℕ). sync_each_m plan g path is (view_w l)) (sym (range_more n i h)) ∙ S.left

    number : one.out ≡ x
    unfolding flat_o
    number = sym (ap (λ (o : Outcome None Lent). o.out) q)

    held_then : e ≡ flat_w one.left
    unfolding flat_o
    held_then = ap (λ (o : Outcome None Lent). o.left) q

    -- it failed: the whole call stops here
    pub syncing_stop : x ≢ 0 → outcome x tt e ≡ flat_o (sync_dir_m plan g path w)
    unfolding sync_each_m
    syncing_stop ne =
        let z : eqb one.out 0 ≡ false = ne_eqb one.out 0 (λ o. ne (sym number ∙ o)) in
        q ∙ ap flat_o (rw z at next)

    pub syncing_more : l.bufs.pool.held ≡ n → x ≡ 0 → Syncing plan g path n w e (i + 1)
    unfolding sync_each_m view_w view
    syncing_more held o =
        let z : eqb one.out 0 ≡ true = eq-eqb one.out 0 (number ∙ o) in
        let k : i < length (view_w l).state.rows = omega (arith, length_rows l.bufs.nums l.bufs.names l.bufs.pool.held) in
        let y = world_is g one.left e (sync_one_fit plan g path i (view_w l) (ready_fit g l S.ready) k) held_then in
        record { ready = y.1; left = ap (sync_each_m plan g path rest) y.0 ∙ (rw z at next) }

  pub syncing_done : n ≤ i → outcome 0 tt l ≡ flat_o (sync_dir_m plan g path w)
  unfolding sync_each_m
  syncing_done h =
      stays 0 tt l S.ready.pool
      ∙ ap flat_o (ap (λ (is : List ℕ). sync_each_m plan g path is (view_w l)) (sym (range_end n i h)) ∙ S.left)
