-- The number that a device call comes to, and a step of the pool's calls: 0, 10 or 11, so one of 01's, and no refusal.
use Prim.Native.Nat.{ℕ, ◌+◌}
use native.Mathlib.Omega.{arith}
use mathlib.Core.Path.{refl}
use mathlib.Core.Logic.{inl, inr}
use mathlib.Core.Bool.{Bool, true, false, cond}
use mathlib.Core.List.{List}
use lib.Dec.{eqb, ltb}
use lib.ListN.{length}
use Rattle.device.specs.declared.Geometry.{Geometry}
use Rattle.device.specs.Device.{Dev, turn, onward, short, stores, stops, seen, flushed, flush_m, write_m, header_write_m, data_write_m, truncate_m, data_truncate_m, read_m, data_read_m}
use Rattle.slot_rows.specs.Rows.{at}
use Rattle.pool_state.specs.Numbers.{IsNumber}
use Rattle.pool_steps.specs.World.{World}
use Rattle.pool_steps.specs.Steps.{put_m, free_block, free_m, release_m, row_block, sync_row_m}
use Rattle.pool_steps.specs.Outcome.{Outcome, NotRefused}
use Rattle.pool_steps.proofs.Stays.{then_keeps}

-- What is so of both is so of the one that is picked.
pub either : {A : Type 0} (P : A → Type 0) (t : Bool) {x y : A} → P x → P y → P (cond t x y)
either P true p q = p
either P false p q = q

-- ---- what a device call came to

abbrev pub Last : Dev → Type 0
Last d = NotRefused d.place.last

abbrev pub LastW : World → Type 0
LastW w = Last w.dev

abbrev pub LastO : {R X : Type 0} → Outcome R X → Type 0
LastO o = NotRefused o.out

-- one of 01's numbers
pub number : {n : ℕ} → NotRefused n → IsNumber n
number (inl e) = omega arith
number (inr (inl e)) = omega arith
number (inr (inr e)) = omega arith

done_or_failed : (t : Bool) → NotRefused (cond t 10 0)
done_or_failed t = either NotRefused t (inr (inl refl)) (inl refl)

module _ (plan : List ℕ) (g : Geometry) where
  write_last : (slot pos : ℕ) (src : List ℕ) (d : Dev) → Last (write_m plan g slot pos src d)
  unfolding write_m onward short
  write_last slot pos src d =
      either Last (eqb (turn plan d.place) 1) (inr (inl refl))
      (either Last (ltb g.size pos) (inr (inl refl))
      (either NotRefused (ltb (stores (turn plan d.place) g.size pos (length src)) (length src)) (inr (inr refl)) (inl refl)))

  pub flush_last : (d : Dev) → Last (flush_m plan d)
  unfolding flush_m flushed onward
  flush_last d = done_or_failed (stops (turn plan d.place))

  pub cut_last : (slot len : ℕ) (d : Dev) → Last (data_truncate_m plan g slot len d)
  unfolding data_truncate_m truncate_m onward
  cut_last slot len d =
      either Last (stops (turn plan d.place)) (inr (inl refl)) (either Last (ltb g.size (512 + len)) (inr (inl refl)) (inl refl))

  pub store_last : (slot pos : ℕ) (src : List ℕ) (d : Dev) → Last (data_write_m plan g slot pos src d)
  unfolding data_write_m
  store_last slot pos src d = write_last slot (512 + pos) src d

  pub read_last : (slot pos : ℕ) (dst : List ℕ) (d : Dev) → NotRefused (data_read_m plan g slot pos dst d).got.place.last
  unfolding data_read_m read_m seen onward
  read_last slot pos dst d = done_or_failed (eqb (turn plan d.place) 1)

  pub put_last : (slot : ℕ) (block : List ℕ) (d : Dev) → Last (put_m plan g slot block d)
  unfolding put_m header_write_m
  put_last slot block d = then_keeps Last (header_write_m plan g slot block d) (flush_m plan) (write_last slot 0 block d) (flush_last (header_write_m plan g slot block d))

  pub release_last : (i : ℕ) (w : World) → LastW (release_m plan g i w)
  unfolding release_m free_m
  release_last i w =
      let d = put_m plan g i (free_block w.state.counter) w.dev in
      then_keeps Last d (data_truncate_m plan g i 0) (put_last i (free_block w.state.counter) w.dev) (cut_last i 0 d)

  pub sync_row_last : (i : ℕ) (w : World) → LastW (sync_row_m plan g i w)
  unfolding sync_row_m
  sync_row_last i w = put_last i (row_block (at w.state.rows i)) w.dev
