-- What a live handle is, what the calls on a handle leave of a pool with its device, and what of a call's outcome follows at once.
use Prim.Native.Nat.{ℕ, ◌<◌}
use native.Mathlib.Omega.{arith}
use mathlib.Core.Path.{◌≡◌, refl, ap}
use mathlib.Core.Bool.{Bool, true, false, cond, false≢true}
use mathlib.Core.List.{List}
use lib.Dec.{eqb, ltb, leb}
use lib.ListN.{length, length-set}
use borrow.Author.Tests.{ltb-true, eqb-true}
use Rattle.device.specs.declared.Geometry.{Geometry}
use Rattle.device.specs.Device.{Dev, flush_m, read_m, data_read_m}
use Rattle.device.specs.AnyDevice.{flush, truncate, store, load}
use Rattle.slot_rows.specs.Rows.{Row, at, is_bound, gen_of, len_of, is_dirty, resized}
use Rattle.pool_state.specs.State.{IsPool}
use Rattle.pool_state.specs.Changes.{with_row, with_row_valid, resized_admitted}
use Rattle.pool_steps.specs.World.{World, world, Lent, view_w, Fit}
use Rattle.pool_steps.specs.Steps.{fine_m, sync_row_m}
use Rattle.pool_steps.proofs.Stays.{Kept, call_kept, sync_row_fit, lent_stays}
use Rattle.pool_steps.specs.Outcome.{Outcome, outcome, flat_o}
use Rattle.inner_handle.specs.Handles.{is_live, on_handle, filling, read_part, read_at_m, resized_m, write_at_m, set_len_m, sync_m}

-- A refusal, and any call that changes nothing: the buffers stay.
pub stays : {R : Type 0} (n : ℕ) (r : R) (l : Lent) → IsPool l.bufs → outcome n r l ≡ flat_o (outcome n r (view_w l))
unfolding flat_o
stays n r l p = ap (outcome n r) (lent_stays l p)

-- ---- a live handle

-- Its slot is held and bound, under its generation.
pub live_means : (slot generation : ℕ) (rs : List Row) → is_live slot generation rs ≡ true → (slot < length rs) × (is_bound (at rs slot) ≡ true) × (gen_of (at rs slot) ≡ generation)
unfolding is_live
live_means slot generation rs h = go (ltb slot (length rs)) (is_bound (at rs slot)) (eqb (gen_of (at rs slot)) generation) refl refl refl h
  where
    go : (a b e : Bool) → ltb slot (length rs) ≡ a → is_bound (at rs slot) ≡ b → eqb (gen_of (at rs slot)) generation ≡ e → cond a (cond b e false) false ≡ true
        → (slot < length rs) × (is_bound (at rs slot) ≡ true) × (gen_of (at rs slot) ≡ generation)
    go true true true x y z t = (ltb-true _ _ x, y, eqb-true _ _ z)
    go true true false x y z t = absurd (false≢true t)
    go true false e x y z t = absurd (false≢true t)
    go false b e x y z t = absurd (false≢true t)

-- What is so of the pool as it was, and of what a call on a live handle comes to, is so after the call.
pub on_handle_lem : {R : Type 0} (P : World → Type 0) (slot generation : ℕ) (zeros : R) (w : World) (o : Outcome R World)
    → P w → (is_live slot generation w.state.rows ≡ true → P o.left) → P (on_handle slot generation zeros w o).left
on_handle_lem P slot generation zeros w o p f = go (is_live slot generation w.state.rows) refl
  where
    go : (t : Bool) → is_live slot generation w.state.rows ≡ t → P (cond t o (outcome 6 zeros w)).left
    go true e = f e
    go false e = p

-- ---- "a pool stays a pool"

-- a pool whose device was called upon
pub device_fit : (g : Geometry) (w : World) (d : Dev) → Fit g w → Kept g w.dev d → Fit g (world d w.state)
device_fit g w d f k = record { valid = f.valid; shape = k.shape; slots = omega (arith, k.slots, f.slots) }

-- and then a row's length changed, or not
pub resized_fit : (g : Geometry) (w : World) (d : Dev) (i n : ℕ) → Fit g w → Kept g w.dev d → i < length w.state.rows → Fit g (resized_m d i n w.state)
unfolding resized_m with_row
resized_fit g w d i n f k h = go (fine_m d)
  where
    go : (t : Bool) → Fit g (world d (cond t (with_row i (resized n true (at w.state.rows i)) w.state) w.state))
    go true = record {
      valid = with_row_valid w.state i (resized n true (at w.state.rows i)) f.valid h (resized_admitted w.state i n true f.valid);
      shape = k.shape;
      slots = omega (arith, k.slots, f.slots, length-set w.state.rows i (resized n true (at w.state.rows i)));
    }
    go false = device_fit g w d f k

module _ (plan : List ℕ) (g : Geometry) (slot generation : ℕ) (w : World) (f : Fit g w) where
  abbrev Live : Type 0
  Live = is_live slot generation w.state.rows ≡ true

  held : Live → slot < length w.state.rows
  held e = (live_means slot generation w.state.rows e).0

  inside : Live → slot < length w.dev.phys
  inside e = omega (arith, held e, f.slots)

  start : Kept g w.dev w.dev
  start = record { shape = f.shape; slots = refl }

  pub read_at_fit : (pos : ℕ) (buf : List ℕ) → Fit g (read_at_m plan g slot generation pos buf w).left
  unfolding read_at_m read_part data_read_m read_m
  read_at_fit pos buf = on_handle_lem (Fit g) slot generation (filling 0 buf) w _ f (λ e. go e (leb (len_of (at w.state.rows slot)) pos))
    where
      go : Live → (t : Bool) → Fit g (cond t (outcome 0 (filling 0 buf) w) (read_part plan g slot pos buf w)).left
      go e true = f
      go e false = device_fit g w _ f (call_kept plan g (load slot pos 0) w.dev w.dev start (inside e))

  pub write_at_fit : (pos : ℕ) (src : List ℕ) → Fit g (write_at_m plan g slot generation pos src w).left
  unfolding write_at_m
  write_at_fit pos src =
      on_handle_lem (Fit g) slot generation tt w _ f (λ e. resized_fit g w _ slot _ f (call_kept plan g (store slot pos src) w.dev w.dev start (inside e)) (held e))

  pub set_len_fit : (len : ℕ) → Fit g (set_len_m plan g slot generation len w).left
  unfolding set_len_m
  set_len_fit len =
      on_handle_lem (Fit g) slot generation tt w _ f (λ e. resized_fit g w _ slot _ f (call_kept plan g (truncate slot len) w.dev w.dev start (inside e)) (held e))

  pub sync_fit : Fit g (sync_m plan g slot generation w).left
  unfolding sync_m
  sync_fit = on_handle_lem (Fit g) slot generation tt w _ f (λ e. go e (is_dirty (at w.state.rows slot)))
    where
      go : Live → (t : Bool) → Fit g (cond t (sync_row_m plan g slot w) (world (flush_m plan w.dev) w.state))
      go e true = sync_row_fit plan g slot w f (held e)
      go e false = device_fit g w (flush_m plan w.dev) f (call_kept plan g (flush slot) w.dev w.dev start (inside e))
