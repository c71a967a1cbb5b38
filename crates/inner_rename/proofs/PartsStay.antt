-- What the parts of a rename leave of a pool with its device.
use Prim.Native.Nat.{ℕ, ◌+◌, ◌≤◌, ◌<◌}
use native.Mathlib.Omega.{arith}
use native.Mathlib.Decide.{ℕ_discrete}
use mathlib.Core.Path.{◌≡◌, refl, sym, ap, ◌∙◌}
use mathlib.Core.Logic.{◌≢◌}
use mathlib.Core.Bool.{Bool, true, false, cond}
use mathlib.Core.List.{List}
use lib.Dec.{ltb}
use lib.ListN.{length, length-set}
use borrow.Author.Tests.{ltb-true, ltb-false}
use Rattle.limits.specs.Limits.{last_counter}
use Rattle.lists.specs.Distinct.{In}
use Rattle.path.proofs.Theorems.{same_path_lem}
use Rattle.header.specs.Block.{bound_header, encoded}
use Rattle.device.specs.declared.Geometry.{Geometry}
use Rattle.slot_rows.specs.Rows.{unbound, at, path_of, len_of, resized, holds, find}
use Rattle.slot_rows.proofs.Finding.{find_holds, find_none, find_resized, holds_bound, holds_path}
use Rattle.pool_state.specs.State.{State, Valid}
use Rattle.pool_state.specs.Queue.{spent}
use Rattle.pool_state.specs.InBuffers.{spent_valid}
use Rattle.pool_state.specs.Changes.{with_row, with_row_valid, resized_admitted}
use Rattle.pool_steps.specs.World.{World, Fit}
use Rattle.pool_steps.specs.Steps.{fine_m, put_m, release_m}
use Rattle.pool_steps.proofs.Stays.{put_kept, release_is, release_row, release_other, release_fit}
use Rattle.inner_rename.specs.Rename.{rebind_m, vacated_m}

-- A held slot that gives way is not free, and a generation is left for it.
abbrev pub MayGo : ℕ → State → Type 0
MayGo j s = j < length s.rows → (In j s.queue → ⊥) × (s.counter < last_counter)

module _ (plan : List ℕ) (g : Geometry) (w : World) (f : Fit g w) where
  pub rebind_fit : (i : ℕ) (to : List ℕ) → i < length w.state.rows → w.state.counter < last_counter → Fit g (rebind_m plan g i to w)
  unfolding rebind_m spent with_row
  rebind_fit i to h c =
      let k = put_kept plan g i w.dev f.shape (omega (arith, f.slots)) (encoded (bound_header (length to) (len_of (at w.state.rows i)) w.state.counter) to) in
      let t = fine_m (put_m plan g i (encoded (bound_header (length to) (len_of (at w.state.rows i)) w.state.counter) to) w.dev) in
      record { valid = valid t; shape = k.shape; slots = omega (arith, k.slots, f.slots, rows t) }
    where
      valid : (t : Bool) → Valid (spent (cond t w.state (with_row i (resized (len_of (at w.state.rows i)) true (at w.state.rows i)) w.state)))
      valid true = spent_valid w.state f.valid c
      valid false =
          spent_valid (with_row i (resized (len_of (at w.state.rows i)) true (at w.state.rows i)) w.state)
          (with_row_valid w.state i (resized (len_of (at w.state.rows i)) true (at w.state.rows i)) f.valid h (resized_admitted w.state i (len_of (at w.state.rows i)) true f.valid)) c

      rows : (t : Bool) → length (spent (cond t w.state (with_row i (resized (len_of (at w.state.rows i)) true (at w.state.rows i)) w.state))).rows ≡ length w.state.rows
      rows true = refl
      rows false = length-set w.state.rows i (resized (len_of (at w.state.rows i)) true (at w.state.rows i))

  pub vacated_fit : (j : ℕ) → MayGo j w.state → Fit g (vacated_m plan g j w)
  unfolding vacated_m
  vacated_fit j m = go (ltb j (length w.state.rows)) refl
    where
      go : (t : Bool) → ltb j (length w.state.rows) ≡ t → Fit g (cond t (release_m plan g j w) w)
      go true e =
          let h : j < length w.state.rows = ltb-true j (length w.state.rows) e in
          release_fit plan g j w f h (m h).0 (m h).1
      go false e = f

-- What stays where a slot gives way.
pub record Stays (s t : State) : Type 0 where
  pub rows : length t.rows ≡ length s.rows
  pub dirs : t.dirs ≡ s.dirs
  pub chosen : t.chosen ≡ s.chosen
  pub counter : s.counter ≤ t.counter

pub vacated_stays : (plan : List ℕ) (g : Geometry) (j : ℕ) (w : World) → Stays w.state (vacated_m plan g j w).state
unfolding vacated_m
vacated_stays plan g j w = go (ltb j (length w.state.rows))
  where
    go : (t : Bool) → Stays w.state (cond t (release_m plan g j w) w).state
    go true =
        let e = release_is plan g j w in
        record {
          rows = ap (λ (x : State). length x.rows) e ∙ length-set w.state.rows j (unbound w.state.counter);
          dirs = ap (λ (x : State). x.dirs) e;
          chosen = ap (λ (x : State). x.chosen) e;
          counter = omega (arith, ap (λ (x : State). x.counter) e);
        }
    go false = record { rows = refl; dirs = refl; chosen = refl; counter = omega arith }

-- Every other row stays,
pub vacated_other : (plan : List ℕ) (g : Geometry) (j : ℕ) (w : World) (k : ℕ) → k ≢ j → at (vacated_m plan g j w).state.rows k ≡ at w.state.rows k
unfolding vacated_m
vacated_other plan g j w k ne = go (ltb j (length w.state.rows))
  where
    go : (t : Bool) → at (cond t (release_m plan g j w) w).state.rows k ≡ at w.state.rows k
    go true = release_other plan g j w k ne
    go false = refl

-- and no row holds the path of the one that gave way.
pub vacated_none : (plan : List ℕ) (g : Geometry) (path : List ℕ) (w : World) → Valid w.state → (k : ℕ)
    → holds path (at (vacated_m plan g (find path w.state.rows) w).state.rows k) ≡ false
unfolding vacated_m holds
vacated_none plan g path w ok k = go (ltb j (length w.state.rows)) refl
  where
    j : ℕ
    j = find path w.state.rows

    only : j < length w.state.rows → k ≢ j → (t : Bool) → holds path (at w.state.rows k) ≡ t → t ≡ false
    only h ne true e =
        let f = find_holds path w.state.rows h in
        let a = holds_bound path (at w.state.rows k) e in
        let b = holds_bound path (at w.state.rows j) f in
        let c = (same_path_lem (path_of (at w.state.rows k)) path).0 (sym (holds_path path (at w.state.rows k) a) ∙ e) in
        let d = (same_path_lem (path_of (at w.state.rows j)) path).0 (sym (holds_path path (at w.state.rows j) b) ∙ f) in
        absurd (ne (ok.slots.apart k j a b (c ∙ sym d)))
    only h ne false e = refl

    gone : j < length w.state.rows → Dec (k ≡ j) → holds path (at (release_m plan g j w).state.rows k) ≡ false
    gone h (yes e) = ap (λ (x : ℕ). holds path (at (release_m plan g j w).state.rows x)) e ∙ ap (holds path) (release_row plan g j w h)
    gone h (no ne) = ap (holds path) (release_other plan g j w k ne) ∙ only h ne (holds path (at w.state.rows k)) refl

    go : (t : Bool) → ltb j (length w.state.rows) ≡ t → holds path (at (cond t (release_m plan g j w) w).state.rows k) ≡ false
    go true e = gone (ltb-true j (length w.state.rows) e) (ℕ_discrete k j)
    go false e = find_none path w.state.rows k (ltb-false j (length w.state.rows) e)

-- What stays where a header with a new path is written: all but the rows, which are as many and hold what they held, and the generation that is spent.
pub record Rebound (s t : State) : Type 0 where
  pub rows : length t.rows ≡ length s.rows
  pub dirs : t.dirs ≡ s.dirs
  pub chosen : t.chosen ≡ s.chosen
  pub queue : t.queue ≡ s.queue
  pub counter : t.counter ≡ s.counter + 1
  pub find : (path : List ℕ) → find path t.rows ≡ find path s.rows

pub rebound : (plan : List ℕ) (g : Geometry) (i : ℕ) (to : List ℕ) (w : World) → Rebound w.state (rebind_m plan g i to w).state
unfolding rebind_m spent with_row
rebound plan g i to w = go (fine_m (put_m plan g i (encoded (bound_header (length to) (len_of (at w.state.rows i)) w.state.counter) to) w.dev))
  where
    go : (t : Bool) → Rebound w.state (spent (cond t w.state (with_row i (resized (len_of (at w.state.rows i)) true (at w.state.rows i)) w.state)))
    go true = record { rows = refl; dirs = refl; chosen = refl; queue = refl; counter = refl; find = λ path. refl }
    go false =
        record {
          rows = length-set w.state.rows i (resized (len_of (at w.state.rows i)) true (at w.state.rows i));
          dirs = refl;
          chosen = refl;
          queue = refl;
          counter = refl;
          find = λ path. find_resized path w.state.rows i (len_of (at w.state.rows i)) true;
        }
