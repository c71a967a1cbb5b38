-- In plan terms: where the plan has no byte 1 or 2 from the place on, no header read is touched (`faultless_untouched`) and no release
-- fails (`faultless_none_fails`). Each device call moves the place on, and what is behind it stays calm.
use Prim.Native.Nat.{ℕ, zero, suc, ◌+◌, ◌-◌, ◌≤◌, min}
use native.Mathlib.Nat.{add-zero}
use native.Mathlib.Omega.{arith}
use mathlib.Core.Path.{◌≡◌, refl}
use mathlib.Core.Logic.{◌≢◌}
use mathlib.Core.Bool.{Bool, true, false, cond}
use mathlib.Core.List.{List, [], ◌∷◌}
use lib.Dec.{eqb, ltb}
use lib.ListN.{length, get_or}
use borrow.Author.Tests.{ne_eqb, le-ltb}
use Rattle.device.specs.declared.Place.{Place}
use Rattle.device.specs.declared.Geometry.{Geometry}
use Rattle.device.specs.Device.{Dev, turn, onward, share, stops, short, stores, write_m, truncate_m, flushed, flush_m}
use Rattle.device.specs.Device.{header_write_m, data_truncate_m}
use Rattle.pool_steps.specs.World.{World}
use Rattle.pool_steps.specs.Steps.{fine_m, put_m, free_block, free_m, release_m}
use Rattle.pool_steps.proofs.Stays.{then_keeps, length_free}
use Rattle.pool_steps.proofs.Numbers.{either}
use Rattle.mount_survey.specs.Heads.{Reads, looked, reads_m}
use Rattle.promises_mount.specs.Words.{Untouched, Faultless, AllFine, reading, surveyed, standing, NoneFails}

module _ (plan : List ℕ) where
  -- the place moves on
  faultless_onward : (o : ℕ) (p : Place) → Faultless plan p → Faultless plan (onward plan o p)
  unfolding Faultless onward
  faultless_onward o p c j = go (ltb p.at (length plan))
    where
      go : (t : Bool) → (get_or plan (cond t (p.at + 1) p.at + j) 0 ≢ 1) × (get_or plan (cond t (p.at + 1) p.at + j) 0 ≢ 2)
      go true = let q : p.at + 1 + j ≡ p.at + suc j = omega arith in rw q (c (suc j))
      go false = c j

  pub faultless_now : (p : Place) → Faultless plan p → (turn plan p ≢ 1) × (turn plan p ≢ 2)
  unfolding Faultless turn
  faultless_now p c = rw (add-zero p.at) at (c 0)

  pub faultless_untouched : (i k : ℕ) (d : Dev) → Faultless plan d.place → Untouched plan i k d
  unfolding Faultless Untouched
  faultless_untouched i k d c j l = ((c j).0, λ e. absurd ((c j).1 e))

  abbrev After : Dev → Type 0
  After d = Faultless plan d.place

  module _ (g : Geometry) (big : 512 ≤ g.size) where
    module _ (i : ℕ) (ys : List ℕ) (d : Dev) (c : After d) where
      write_calm : After (header_write_m plan g i ys d)
      unfolding header_write_m write_m
      write_calm =
          either After (eqb (turn plan d.place) 1) (faultless_onward 10 d.place c)
          (either After (ltb g.size 0) (faultless_onward 10 d.place c)
          (faultless_onward (short (stores (turn plan d.place) g.size 0 (length ys)) (length ys)) d.place c))

      write_fine : length ys ≡ 512 → fine_m (header_write_m plan g i ys d) ≡ true
      unfolding header_write_m write_m short stores share onward
      write_fine e =
          let n = faultless_now d.place c in
          let one = ne_eqb (turn plan d.place) 1 n.0 in
          let two = ne_eqb (turn plan d.place) 2 n.1 in
          let in-slot = le-ltb g.size 0 (omega arith) in
          let all = le-ltb (min (length ys) (g.size - 0)) (length ys) (omega arith) in
          rw (one, two, in-slot, all) refl

      flush_calm : After (flush_m plan d)
      unfolding flush_m flushed
      flush_calm = faultless_onward (cond (stops (turn plan d.place)) 10 0) d.place c

      flush_fine : fine_m (flush_m plan d) ≡ true
      unfolding flush_m flushed onward stops
      flush_fine =
          let n = faultless_now d.place c in
          rw (ne_eqb (turn plan d.place) 1 n.0, ne_eqb (turn plan d.place) 2 n.1) refl

      cut_calm : After (data_truncate_m plan g i 0 d)
      unfolding data_truncate_m truncate_m
      cut_calm =
          either After (stops (turn plan d.place)) (faultless_onward 10 d.place c)
          (either After (ltb g.size 512) (faultless_onward 10 d.place c) (faultless_onward 0 d.place c))

      cut_fine : fine_m (data_truncate_m plan g i 0 d) ≡ true
      unfolding data_truncate_m truncate_m onward stops
      cut_fine =
          let n = faultless_now d.place c in
          let in-slot = le-ltb g.size 512 big in
          rw (ne_eqb (turn plan d.place) 1 n.0, ne_eqb (turn plan d.place) 2 n.1, in-slot) refl

    -- a release
    module _ (i gen : ℕ) (d : Dev) (c : After d) where
      abbrev ys : List ℕ
      ys = free_block gen

      abbrev stored : Dev
      stored = header_write_m plan g i ys d

      put_calm : After (put_m plan g i ys d)
      unfolding put_m
      put_calm =
          let w = write_calm i ys d c in
          then_keeps After stored (flush_m plan) w (flush_calm i ys stored w)

      put_fine : fine_m (put_m plan g i ys d) ≡ true
      unfolding put_m
      put_fine = rw (write_fine i ys d c (length_free gen)) (flush_fine i ys stored (write_calm i ys d c))

      free_calm : After (free_m plan g i gen d)
      unfolding free_m
      free_calm = then_keeps After (put_m plan g i ys d) (data_truncate_m plan g i 0) put_calm (cut_calm i ys (put_m plan g i ys d) put_calm)

      free_fine : fine_m (free_m plan g i gen d) ≡ true
      unfolding free_m
      free_fine = rw put_fine (cut_fine i ys (put_m plan g i ys d) put_calm)

    all_fine : (ls : List ℕ) (w : World) → After w.dev → AllFine plan g ls w
    unfolding AllFine release_m
    all_fine [] w c = tt
    all_fine (i ∷ is) w c =
        (free_fine i w.state.counter w.dev c, all_fine is (release_m plan g i w) (free_calm i w.state.counter w.dev c))

    reads_calm : (k i : ℕ) (d : Dev) → After d → Faultless plan (reads_m plan g i k d).place
    unfolding reads_m looked
    reads_calm zero i d c = c
    reads_calm (suc k) i d c =
        let n = faultless_onward (cond (eqb (turn plan d.place) 1) 10 0) d.place c in
        either (λ (r : Reads). Faultless plan r.place) (eqb (turn plan d.place) 1) n (reads_calm k (suc i) (looked plan d) n)

    pub faultless_none_fails : (k : ℕ) (w : World) → After w.dev → NoneFails plan g k w
    unfolding NoneFails standing reading
    faultless_none_fails k w c =
        all_fine (surveyed plan g k w).losers (standing plan g k w) (reads_calm k (length w.state.rows) w.dev c)
