-- What the laws of AnyDevice come from: the device's calls on one slot, on the others, and what each call comes to.
use Prim.Native.Nat.{ℕ, ◌+◌, ◌-◌, ◌*◌, ◌/◌, ◌≤◌, ◌<◌, min, max}
use native.Mathlib.Nat.{mul-le-mul_left}
use native.Mathlib.Decide.{ℕ_discrete}
use native.Mathlib.Omega.{arith}
use mathlib.Core.Path.{◌≡◌, refl, sym, ap, ap₂, subst, ◌∙◌}
use mathlib.Core.Logic.{◌≢◌, ◌⊎◌, inl, inr}
use mathlib.Core.Bool.{Bool, true, false, cond, ◌||◌, false≢true}
use mathlib.Core.List.{List, [], ◌++◌, append-nil}
use lib.ListN.{length, take, drop, replicate, length-take, length-drop, length-set, length-replicate, drop_of_length-le, get_or-eq_default}
use lib.Seq.{get_or-set_same, get_or-set_other, length-take-le, take_all, take-take, drop-drop}
use lib.Dec.{ltb, eqb}
use borrow.Author.Tests.{ltb-true, ltb-false, eqb-true, lt-ltb, le-ltb, eq-eqb, not-true}
use Rattle.lists.specs.Bools.{both}
use Rattle.lists.specs.Fronts.{drop_take, take_min}
use Rattle.lists.specs.Blocks.{pad}
use Rattle.le.specs.Le.{laid}
use Rattle.le.proofs.Parts.{length_laid, take_laid, laid_nothing}
use Rattle.device.specs.declared.Geometry.{Geometry}
use Rattle.device.specs.Device.{Dev, Shape, turn, onward, noted, share, stops, short, stores, phys_of, given, seen, grown, stored_bytes, stored_phys, stored, write_m, cut, truncate_m, flushed, flush_m, header_write_m, data_write_m, data_truncate_m}
use Rattle.device.proofs.Shapes.{shape_means, shape_set, shape_stored}
use Rattle.device.specs.Slots.{part_of, part_laid, part_other, front_grown, front_laid, share_le}
use Rattle.device.specs.AnyDevice.{Call, look, header, flush, truncate, store, load, slot_of, sound, reads, quiet, on_file, Inside, Whole, moved}
use Rattle.device.specs.Calls.{SlotStays, may, call_m, given_m, last_of, read_all, ok_m, block_of, act_m, given_by, failed_m, whole_m}

-- ---- what a call comes to

short_not_ten : (n m : ℕ) → eqb (short n m) 10 ≡ false
unfolding short
short_not_ten n m = go (ltb n m)
  where
    go : (t : Bool) → eqb (cond t 11 0) 10 ≡ false
    go true = refl
    go false = refl

short_zero : (n m : ℕ) → eqb (short n m) 0 ≡ true → m ≤ n
unfolding short
short_zero n m e = go (ltb n m) refl e
  where
    go : (t : Bool) → ltb n m ≡ t → eqb (cond t 11 0) 0 ≡ true → m ≤ n
    go true q f = absurd (false≢true f)
    go false q f = ltb-false n m q

short_none : (n m : ℕ) → m ≤ n → short n m ≡ 0
unfolding short
short_none n m l = rw (le-ltb n m l)

ten_not : (o : ℕ) → o ≡ 10 → eqb o 10 ≡ false → ⊥
ten_not o e f = false≢true (sym f ∙ eq-eqb o 10 e)

short_not : (o n m : ℕ) → o ≡ short n m → eqb o 10 ≡ true → ⊥
short_not o n m e f = false≢true (sym (short_not_ten n m) ∙ ap (λ (k : ℕ). eqb k 10) (sym e) ∙ f)

zero_fine : (o : ℕ) → o ≡ 0 → eqb o 10 ≡ false
zero_fine o e = rw e

ten_fails : (o : ℕ) → o ≡ 10 → eqb o 0 ≡ false
ten_fails o e = rw e

short_some : (n m : ℕ) → eqb (short n m) 0 ≡ false → n < m
unfolding short
short_some n m e = go (ltb n m) refl e
  where
    go : (t : Bool) → ltb n m ≡ t → eqb (cond t 11 0) 0 ≡ false → n < m
    go true q f = ltb-true n m q
    go false q f = absurd (false≢true (sym f))

cond_ten : (t : Bool) → eqb (cond t 10 0) 10 ≡ true → t ≡ true
cond_ten true e = refl
cond_ten false e = e

cond_not_ten : (t : Bool) → eqb (cond t 10 0) 10 ≡ false → t ≡ false
cond_not_ten true e = e
cond_not_ten false e = refl

-- ---- how many bytes are moved

half : (byte : ℕ) → share byte 512 < 512 → share byte 512 ≡ 256
unfolding share
half byte l = go (eqb byte 2) refl
  where
    go : (t : Bool) → eqb byte 2 ≡ t → share byte 512 ≡ 256
    go true e = rw e
    go false e = let k : 512 < 512 = rw e at l in absurd (omega arith)

share_all : (byte n m : ℕ) → share byte n ≡ n → share byte (min n m) ≡ min n m
unfolding share
share_all byte n m q = go (eqb byte 2) refl
  where
    go : (t : Bool) → eqb byte 2 ≡ t → share byte (min n m) ≡ min n m
    go true e = let k = rw e at q in rw e (omega arith)
    go false e = rw e

-- where not all of n bytes are moved, half of any number is
share_half : (byte n m : ℕ) → (share byte n ≡ n → ⊥) → share byte m ≡ m / 2
unfolding share
share_half byte n m ne = go (eqb byte 2) refl
  where
    go : (t : Bool) → eqb byte 2 ≡ t → share byte m ≡ m / 2
    go true e = rw e
    go false e = absurd (ne (rw e))

calm_one : (byte : ℕ) → stops byte ≡ false → eqb byte 1 ≡ false
unfolding stops
calm_one byte e = go (eqb byte 1) e
  where
    go : (t : Bool) → (t || eqb byte 2) ≡ false → t ≡ false
    go true q = q
    go false q = refl

calm_share : (byte n : ℕ) → stops byte ≡ false → share byte n ≡ n
unfolding stops share
calm_share byte n e = go (eqb byte 1) (eqb byte 2) e
  where
    go : (t u : Bool) → (t || u) ≡ false → cond u (n / 2) n ≡ n
    go t false q = refl
    go true true q = absurd (false≢true (sym q))
    go false true q = absurd (false≢true (sym q))

module _ (plan : List ℕ) (g : Geometry) where
  -- how many bytes of src a write stores
  abbrev count : ℕ → List ℕ → Dev → ℕ
  count pos src d = stores (turn plan d.place) g.size pos (length src)

  -- a write failed, or stored what it may
  abbrev Wrote : ℕ → ℕ → List ℕ → Dev → Dev → Type 0
  Wrote i pos src d x =
      ((x ≡ noted plan 10 d) × (last_of x ≡ 10))
      ⊎ ((x ≡ noted plan (short (count pos src d) (length src)) (stored g i pos (take (count pos src d) src) d)) × (last_of x ≡ short (count pos src d) (length src)) × (pos ≤ g.size))

  write_out : (i pos : ℕ) (src : List ℕ) (d : Dev) → Wrote i pos src d (write_m plan g i pos src d)
  unfolding write_m onward
  write_out i pos src d = go (eqb (turn plan d.place) 1) (ltb g.size pos) refl
    where
      go : (s t : Bool) → ltb g.size pos ≡ t
          → Wrote i pos src d (cond s (noted plan 10 d) (cond t (noted plan 10 d) (noted plan (short (count pos src d) (length src)) (stored g i pos (take (count pos src d) src) d))))
      go true t f = inl (refl, refl)
      go false true f = inl (refl, refl)
      go false false f = inr (refl, refl, ltb-false g.size pos f)

  -- a truncate failed, or set the length
  abbrev Cut : ℕ → ℕ → Dev → Dev → Type 0
  Cut i len d x = ((x ≡ noted plan 10 d) × (last_of x ≡ 10)) ⊎ ((x ≡ noted plan 0 (cut g i len d)) × (last_of x ≡ 0) × (len ≤ g.size))

  cut_out_lem : (i len : ℕ) (d : Dev) → Cut i len d (truncate_m plan g i len d)
  unfolding truncate_m onward
  cut_out_lem i len d = go (stops (turn plan d.place)) (ltb g.size len) refl
    where
      go : (s t : Bool) → ltb g.size len ≡ t → Cut i len d (cond s (noted plan 10 d) (cond t (noted plan 10 d) (noted plan 0 (cut g i len d))))
      go true t f = inl (refl, refl)
      go false true f = inl (refl, refl)
      go false false f = inr (refl, refl, ltb-false g.size len f)

  -- ---- one slot of a device of the right shape

  abbrev pub Same : Dev → Dev → ℕ → Type 0
  Same d x j = SlotStays g j d x

  module _ (d : Dev) (i : ℕ) (s : Shape g d.bytes d.phys) (r : i < length d.phys) where
    room : i * g.size + g.size ≤ length d.bytes
    room = omega (arith, mul-le-mul_left g.size r, s.slots)

    pub part_size : length (part_of g.size i d.bytes) ≡ g.size
    unfolding part_of
    part_size = simp (length-take, length-drop) (omega (arith, room))

    module _ (to : ℕ) (l : to ≤ g.size) where
      gap : phys_of i d + length {A = ℕ} (replicate (to - phys_of i d) 0) ≤ g.size
      gap = simp length-replicate (omega (arith, s.within i r))

      grown_length : length (grown (i * g.size) (phys_of i d) to d.bytes) ≡ length d.bytes
      unfolding grown
      grown_length = length_laid d.bytes (i * g.size + phys_of i d) (replicate (to - phys_of i d) 0) (omega (arith, gap, room))

      grown_part : part_of g.size i (grown (i * g.size) (phys_of i d) to d.bytes) ≡ laid (part_of g.size i d.bytes) (phys_of i d) (replicate (to - phys_of i d) 0)
      unfolding grown
      grown_part = part_laid g.size i (phys_of i d) d.bytes (replicate (to - phys_of i d) 0) room gap

      grown_other : (j : ℕ) → j ≢ i → part_of g.size j (grown (i * g.size) (phys_of i d) to d.bytes) ≡ part_of g.size j d.bytes
      unfolding grown
      grown_other = part_other g.size i (phys_of i d) d.bytes (replicate (to - phys_of i d) 0) room gap

      cut_other : (j : ℕ) → j ≢ i → Same d (cut g i to d) j
      cut_other j ne = (grown_other j ne, get_or-set_other d.phys i j to 0 ne)

      cut_phys : phys_of i (cut g i to d) ≡ to
      cut_phys = get_or-set_same d.phys i to 0 r

      cut_shape : Shape g (cut g i to d).bytes (cut g i to d).phys
      cut_shape = shape_set _ _ i to s grown_length refl l

      -- the block, filled up
      cut_block : 512 ≤ to → block_of g i (cut g i to d) ≡ pad 512 (block_of g i d)
      cut_block h =
          let m : min 512 (phys_of i (cut g i to d)) ≡ 512 = omega (arith, cut_phys) in
          let w : phys_of i d ≤ length (part_of g.size i d.bytes) = omega (arith, part_size, s.within i r) in
          let v : to ≤ length (part_of g.size i d.bytes) = omega (arith, part_size) in
          ap₂ (λ (k : ℕ) (p : List ℕ). take k p) m grown_part ∙ front_grown (part_of g.size i d.bytes) 512 (phys_of i d) to w h v

    module _ (pos : ℕ) (ys : List ℕ) (l : pos + length ys ≤ g.size) where
      before : pos ≤ g.size
      before = omega arith

      room_grown : i * g.size + g.size ≤ length (grown (i * g.size) (phys_of i d) pos d.bytes)
      room_grown = omega (arith, room, grown_length pos before)

      stored_length : length (stored g i pos ys d).bytes ≡ length d.bytes
      unfolding stored_bytes
      stored_length = length_laid (grown (i * g.size) (phys_of i d) pos d.bytes) (i * g.size + pos) ys (omega (arith, room_grown)) ∙ grown_length pos before

      pub stored_part : part_of g.size i (stored g i pos ys d).bytes ≡ laid (laid (part_of g.size i d.bytes) (phys_of i d) (replicate (pos - phys_of i d) 0)) pos ys
      unfolding stored_bytes
      stored_part =
          part_laid g.size i pos (grown (i * g.size) (phys_of i d) pos d.bytes) ys room_grown l ∙ ap (λ (p : List ℕ). laid p pos ys) (grown_part pos before)

      pub stored_phys_lem : phys_of i (stored g i pos ys d) ≡ max (phys_of i d) (pos + length ys)
      unfolding stored_phys
      stored_phys_lem = get_or-set_same d.phys i (max (phys_of i d) (pos + length ys)) 0 r

      stored_other : (j : ℕ) → j ≢ i → Same d (stored g i pos ys d) j
      unfolding stored_bytes stored_phys
      stored_other j ne =
          (part_other g.size i pos (grown (i * g.size) (phys_of i d) pos d.bytes) ys room_grown l j ne ∙ grown_other pos before j ne, get_or-set_other d.phys i j (max (phys_of i d) (pos + length ys)) 0 ne)

      stored_shape : Shape g (stored g i pos ys d).bytes (stored g i pos ys d).phys
      stored_shape = shape_stored _ _ i pos (length ys) s r stored_length refl l

      -- behind the header the block is filled up
      stored_block : 512 ≤ pos → block_of g i (stored g i pos ys d) ≡ pad 512 (block_of g i d)
      stored_block h =
          let p = part_of g.size i d.bytes in
          let z : List ℕ = replicate (pos - phys_of i d) 0 in
          let m : min 512 (phys_of i (stored g i pos ys d)) ≡ 512 = omega (arith, stored_phys_lem) in
          let w : phys_of i d ≤ length p = omega (arith, part_size, s.within i r) in
          let v : pos ≤ length p = omega (arith, part_size) in
          let k : length (laid p (phys_of i d) z) ≡ length p = length_laid p (phys_of i d) z (omega (arith, gap pos before, part_size)) in
          ap₂ (λ (k : ℕ) (q : List ℕ). take k q) m stored_part ∙ take_laid (laid p (phys_of i d) z) pos ys (omega arith) 512 h ∙ front_grown p 512 (phys_of i d) pos w h v

    -- at the slot's start it is what was stored, and what the old block had behind that
    top_block : (ys : List ℕ) → length ys ≤ 512 → block_of g i (stored g i 0 ys d) ≡ ys ++ drop (length ys) (block_of g i d)
    top_block ys h =
        let p = part_of g.size i d.bytes in
        let f : 0 + length ys ≤ g.size = omega (arith, s.least) in
        let z : 0 - phys_of i d ≡ 0 = omega arith in
        let m : min 512 (phys_of i (stored g i 0 ys d)) ≡ min 512 (max (phys_of i d) (length ys)) = omega (arith, stored_phys_lem 0 ys f) in
        let q : part_of g.size i (stored g i 0 ys d).bytes ≡ laid p 0 ys = stored_part 0 ys f ∙ ap (λ (k : ℕ). laid (laid p (phys_of i d) (replicate k 0)) 0 ys) z ∙ ap (λ (x : List ℕ). laid x 0 ys) (laid_nothing p (phys_of i d)) in
        ap₂ (λ (k : ℕ) (x : List ℕ). take k x) m q ∙ front_laid p ys 512 (phys_of i d) h (omega (arith, part_size, s.least)) (omega (arith, part_size, s.within i r))

    -- what a read gives, of the bytes below the length
    given_is : (pos n : ℕ) → eqb (turn plan d.place) 1 ≡ false
        → given plan g i pos n d ≡ take (share (turn plan d.place) (min n (phys_of i d - pos))) (drop pos (take (phys_of i d) (part_of g.size i d.bytes)))
    unfolding given part_of
    given_is pos n e =
        let byte = turn plan d.place in
        let k = share byte (min n (phys_of i d - pos)) in
        let w : phys_of i d ≤ g.size = s.within i r in
        let m : k ≤ phys_of i d - pos = omega (arith, share_le byte (min n (phys_of i d - pos))) in
        rw (e, take-take (phys_of i d) g.size (drop (i * g.size) d.bytes) w, drop_take pos (phys_of i d) (drop (i * g.size) d.bytes), drop-drop pos (i * g.size) d.bytes, take-take k (phys_of i d - pos) (drop (i * g.size + pos) d.bytes) m)

  -- ---- what stays, by call

  same_came : (d x : Dev) (o j : ℕ) → x ≡ noted plan o d → Same d x j
  same_came d x o j e = (ap (λ (y : Dev). part_of g.size j y.bytes) e, ap (λ (y : Dev). phys_of j y) e)

  same_as : (d x y : Dev) (j : ℕ) → x ≡ y → Same d y j → Same d x j
  same_as d x y j e s = (ap (λ (z : Dev). part_of g.size j z.bytes) e ∙ s.0, ap (λ (z : Dev). phys_of j z) e ∙ s.1)

  stored_fits : (pos : ℕ) (src : List ℕ) (d : Dev) → pos ≤ g.size → pos + length (take (count pos src d) src) ≤ g.size
  unfolding stores
  stored_fits pos src d l =
      let k = share_le (turn plan d.place) (min (length src) (g.size - pos)) in
      simp length-take (omega arith)

  module _ (d : Dev) (i pos : ℕ) (ys : List ℕ) (s : Shape g d.bytes d.phys) (r : i < length d.phys) where
    write_other : (j : ℕ) → j ≢ i → Same d (write_m plan g i pos ys d) j
    write_other j ne = go (write_out i pos ys d)
      where
        go : Wrote i pos ys d (write_m plan g i pos ys d) → Same d (write_m plan g i pos ys d) j
        go (inl w) = same_came d _ 10 j w.0
        go (inr w) = same_as d _ _ j w.0 (stored_other d i s r pos _ (stored_fits pos ys d w.2) j ne)

    write_shape : Shape g (write_m plan g i pos ys d).bytes (write_m plan g i pos ys d).phys
    write_shape = go (write_out i pos ys d)
      where
        go : Wrote i pos ys d (write_m plan g i pos ys d) → Shape g (write_m plan g i pos ys d).bytes (write_m plan g i pos ys d).phys
        go (inl w) = subst (λ (x : Dev). Shape g x.bytes x.phys) (sym w.0) s
        go (inr w) = subst (λ (x : Dev). Shape g x.bytes x.phys) (sym w.0) (stored_shape d i s r pos _ (stored_fits pos ys d w.2))

    write_block : 512 ≤ pos → eqb (last_of (write_m plan g i pos ys d)) 10 ≡ false → block_of g i (write_m plan g i pos ys d) ≡ pad 512 (block_of g i d)
    write_block h f = go (write_out i pos ys d)
      where
        go : Wrote i pos ys d (write_m plan g i pos ys d) → block_of g i (write_m plan g i pos ys d) ≡ pad 512 (block_of g i d)
        go (inl w) = absurd (ten_not _ w.1 f)
        go (inr w) = ap (block_of g i) w.0 ∙ stored_block d i s r pos (take (count pos ys d) ys) (stored_fits pos ys d w.2) h

    write_reach : eqb (last_of (write_m plan g i pos ys d)) 0 ≡ true → pos + length ys ≤ phys_of i (write_m plan g i pos ys d)
    write_reach f = go (write_out i pos ys d)
      where
        go : Wrote i pos ys d (write_m plan g i pos ys d) → pos + length ys ≤ phys_of i (write_m plan g i pos ys d)
        go (inl w) = absurd (false≢true (sym (ten_fails _ w.1) ∙ f))
        go (inr w) =
            let n = count pos ys d in
            let l : length ys ≤ n = short_zero n (length ys) (ap (λ (k : ℕ). eqb k 0) (sym w.1) ∙ f) in
            let e : take n ys ≡ ys = take_all n ys l in
            let k = stored_phys_lem d i s r pos (take n ys) (stored_fits pos ys d w.2) in
            omega (arith, ap (phys_of i) w.0 ∙ k, ap length e)

  write_failed : (d : Dev) (i pos : ℕ) (ys : List ℕ) (j : ℕ) → eqb (last_of (write_m plan g i pos ys d)) 10 ≡ true → Same d (write_m plan g i pos ys d) j
  write_failed d i pos ys j f = go (write_out i pos ys d)
    where
      go : Wrote i pos ys d (write_m plan g i pos ys d) → Same d (write_m plan g i pos ys d) j
      go (inl w) = same_came d _ 10 j w.0
      go (inr w) = absurd (short_not _ _ _ w.1 f)

  write_slots : (d : Dev) (i pos : ℕ) (ys : List ℕ) → length (write_m plan g i pos ys d).phys ≡ length d.phys
  unfolding stored_phys
  write_slots d i pos ys = go (write_out i pos ys d)
    where
      go : Wrote i pos ys d (write_m plan g i pos ys d) → length (write_m plan g i pos ys d).phys ≡ length d.phys
      go (inl w) = ap (λ (x : Dev). length x.phys) w.0
      go (inr w) = ap (λ (x : Dev). length x.phys) w.0 ∙ length-set d.phys i _

  write_moves : (d : Dev) (i pos : ℕ) (ys : List ℕ) → (write_m plan g i pos ys d).place.at ≡ moved (length plan) d.place.at
  unfolding onward moved
  write_moves d i pos ys = go (write_out i pos ys d)
    where
      go : Wrote i pos ys d (write_m plan g i pos ys d) → (write_m plan g i pos ys d).place.at ≡ moved (length plan) d.place.at
      go (inl w) = ap (λ (x : Dev). x.place.at) w.0
      go (inr w) = ap (λ (x : Dev). x.place.at) w.0

  module _ (d : Dev) (i len : ℕ) (s : Shape g d.bytes d.phys) (r : i < length d.phys) where
    truncate_other : (j : ℕ) → j ≢ i → Same d (truncate_m plan g i len d) j
    truncate_other j ne = go (cut_out_lem i len d)
      where
        go : Cut i len d (truncate_m plan g i len d) → Same d (truncate_m plan g i len d) j
        go (inl w) = same_came d _ 10 j w.0
        go (inr w) = same_as d _ _ j w.0 (cut_other d i s r len w.2 j ne)

    truncate_shape : Shape g (truncate_m plan g i len d).bytes (truncate_m plan g i len d).phys
    truncate_shape = go (cut_out_lem i len d)
      where
        go : Cut i len d (truncate_m plan g i len d) → Shape g (truncate_m plan g i len d).bytes (truncate_m plan g i len d).phys
        go (inl w) = subst (λ (x : Dev). Shape g x.bytes x.phys) (sym w.0) s
        go (inr w) = subst (λ (x : Dev). Shape g x.bytes x.phys) (sym w.0) (cut_shape d i s r len w.2)

    truncate_block : 512 ≤ len → eqb (last_of (truncate_m plan g i len d)) 10 ≡ false → block_of g i (truncate_m plan g i len d) ≡ pad 512 (block_of g i d)
    truncate_block h f = go (cut_out_lem i len d)
      where
        go : Cut i len d (truncate_m plan g i len d) → block_of g i (truncate_m plan g i len d) ≡ pad 512 (block_of g i d)
        go (inl w) = absurd (ten_not _ w.1 f)
        go (inr w) = ap (block_of g i) w.0 ∙ cut_block d i s r len w.2 h

    truncate_reach : eqb (last_of (truncate_m plan g i len d)) 0 ≡ true → phys_of i (truncate_m plan g i len d) ≡ len
    truncate_reach f = go (cut_out_lem i len d)
      where
        go : Cut i len d (truncate_m plan g i len d) → phys_of i (truncate_m plan g i len d) ≡ len
        go (inl w) = absurd (false≢true (sym (ten_fails _ w.1) ∙ f))
        go (inr w) = ap (phys_of i) w.0 ∙ cut_phys d i s r len w.2

  truncate_failed : (d : Dev) (i len j : ℕ) → eqb (last_of (truncate_m plan g i len d)) 10 ≡ true → Same d (truncate_m plan g i len d) j
  truncate_failed d i len j f = go (cut_out_lem i len d)
    where
      go : Cut i len d (truncate_m plan g i len d) → Same d (truncate_m plan g i len d) j
      go (inl w) = same_came d _ 10 j w.0
      go (inr w) = absurd (false≢true (sym (zero_fine _ w.1) ∙ f))

  truncate_slots : (d : Dev) (i len : ℕ) → length (truncate_m plan g i len d).phys ≡ length d.phys
  truncate_slots d i len = go (cut_out_lem i len d)
    where
      go : Cut i len d (truncate_m plan g i len d) → length (truncate_m plan g i len d).phys ≡ length d.phys
      go (inl w) = ap (λ (x : Dev). length x.phys) w.0
      go (inr w) = ap (λ (x : Dev). length x.phys) w.0 ∙ length-set d.phys i len

  truncate_moves : (d : Dev) (i len : ℕ) → (truncate_m plan g i len d).place.at ≡ moved (length plan) d.place.at
  unfolding onward moved
  truncate_moves d i len = go (cut_out_lem i len d)
    where
      go : Cut i len d (truncate_m plan g i len d) → (truncate_m plan g i len d).place.at ≡ moved (length plan) d.place.at
      go (inl w) = ap (λ (x : Dev). x.place.at) w.0
      go (inr w) = ap (λ (x : Dev). x.place.at) w.0

  -- ---- every call

  module _ (d : Dev) (c : Call) where
    -- the call may be made: what that says
    pub may_be : may g d c ≡ true → Shape g d.bytes d.phys × (slot_of c < length d.phys) × (sound c ≡ true)
    unfolding may
    may_be e =
        let a = both _ _ e in
        let b = both _ _ a.1 in
        ((shape_means g d.bytes d.phys).0 a.0, ltb-true (slot_of c) (length d.phys) b.0, b.1)

    pub be_may : Shape g d.bytes d.phys → slot_of c < length d.phys → sound c ≡ true → may g d c ≡ true
    unfolding may
    be_may s r o = rw ((shape_means g d.bytes d.phys).1 s, lt-ltb (slot_of c) (length d.phys) r, o)

  call_other : (d : Dev) (c : Call) (j : ℕ) → Shape g d.bytes d.phys → slot_of c < length d.phys → j ≢ slot_of c → Same d (call_m plan g c d) j
  unfolding header_write_m data_write_m data_truncate_m flush_m
  call_other d (look i) j s r ne = (refl, refl)
  call_other d (header i ys) j s r ne = write_other d i 0 ys s r j ne
  call_other d (flush i) j s r ne = (refl, refl)
  call_other d (truncate i n) j s r ne = truncate_other d i (512 + n) s r j ne
  call_other d (store i at ys) j s r ne = write_other d i (512 + at) ys s r j ne
  call_other d (load i at n) j s r ne = (refl, refl)

  call_failed : (d : Dev) (c : Call) (j : ℕ) → eqb (last_of (call_m plan g c d)) 10 ≡ true → Same d (call_m plan g c d) j
  unfolding header_write_m data_write_m data_truncate_m flush_m
  call_failed d (look i) j f = (refl, refl)
  call_failed d (header i ys) j f = write_failed d i 0 ys j f
  call_failed d (flush i) j f = (refl, refl)
  call_failed d (truncate i n) j f = truncate_failed d i (512 + n) j f
  call_failed d (store i at ys) j f = write_failed d i (512 + at) ys j f
  call_failed d (load i at n) j f = (refl, refl)

  pub call_quiet : (d : Dev) (c : Call) (j : ℕ) → quiet c ≡ true → Same d (call_m plan g c d) j
  unfolding flush_m
  call_quiet d (look i) j q = (refl, refl)
  call_quiet d (header i ys) j q = absurd (false≢true q)
  call_quiet d (flush i) j q = (refl, refl)
  call_quiet d (truncate i n) j q = absurd (false≢true q)
  call_quiet d (store i at ys) j q = absurd (false≢true q)
  call_quiet d (load i at n) j q = (refl, refl)

  pub call_shape : (d : Dev) (c : Call) → Shape g d.bytes d.phys → slot_of c < length d.phys → Shape g (call_m plan g c d).bytes (call_m plan g c d).phys
  unfolding header_write_m data_write_m data_truncate_m flush_m
  call_shape d (look i) s r = s
  call_shape d (header i ys) s r = write_shape d i 0 ys s r
  call_shape d (flush i) s r = s
  call_shape d (truncate i n) s r = truncate_shape d i (512 + n) s r
  call_shape d (store i at ys) s r = write_shape d i (512 + at) ys s r
  call_shape d (load i at n) s r = s

  pub call_slots : (d : Dev) (c : Call) → length (call_m plan g c d).phys ≡ length d.phys
  unfolding header_write_m data_write_m data_truncate_m flush_m
  call_slots d (look i) = refl
  call_slots d (header i ys) = write_slots d i 0 ys
  call_slots d (flush i) = refl
  call_slots d (truncate i n) = truncate_slots d i (512 + n)
  call_slots d (store i at ys) = write_slots d i (512 + at) ys
  call_slots d (load i at n) = refl

  pub call_moves : (d : Dev) (c : Call) → (call_m plan g c d).place.at ≡ moved (length plan) d.place.at
  unfolding header_write_m data_write_m data_truncate_m flush_m flushed seen onward moved
  call_moves d (look i) = refl
  call_moves d (header i ys) = write_moves d i 0 ys
  call_moves d (flush i) = refl
  call_moves d (truncate i n) = truncate_moves d i (512 + n)
  call_moves d (store i at ys) = write_moves d i (512 + at) ys
  call_moves d (load i at n) = refl

  call_block : (d : Dev) (c : Call) → Shape g d.bytes d.phys → slot_of c < length d.phys → on_file c ≡ true → eqb (last_of (call_m plan g c d)) 10 ≡ false
      → block_of g (slot_of c) (call_m plan g c d) ≡ pad 512 (block_of g (slot_of c) d)
  unfolding header_write_m data_write_m data_truncate_m flush_m
  call_block d (look i) s r o f = absurd (false≢true o)
  call_block d (header i ys) s r o f = absurd (false≢true o)
  call_block d (flush i) s r o f = absurd (false≢true o)
  call_block d (truncate i n) s r o f = truncate_block d i (512 + n) s r (omega arith) f
  call_block d (store i at ys) s r o f = write_block d i (512 + at) ys s r (omega arith) f
  call_block d (load i at n) s r o f = absurd (false≢true o)

  -- the length of the call's slot, after a call that is ok
  call_whole : (d : Dev) (c : Call) → Shape g d.bytes d.phys → slot_of c < length d.phys → sound c ≡ true → ok_m plan g c d ≡ true
      → (phys_of (slot_of c) d ≡ 0) ⊎ (512 ≤ phys_of (slot_of c) d) → (phys_of (slot_of c) (call_m plan g c d) ≡ 0) ⊎ (512 ≤ phys_of (slot_of c) (call_m plan g c d))
  unfolding header_write_m data_write_m data_truncate_m flush_m
  call_whole d (look i) s r o k w = w
  call_whole d (header i ys) s r o k w = inr (omega (arith, eqb-true (length ys) 512 o, write_reach d i 0 ys s r k))
  call_whole d (flush i) s r o k w = w
  call_whole d (truncate i n) s r o k w = inr (omega (arith, truncate_reach d i (512 + n) s r k))
  call_whole d (store i at ys) s r o k w = inr (omega (arith, write_reach d i (512 + at) ys s r k))
  call_whole d (load i at n) s r o k w = w

  -- a call that is ok did not come to 10
  read_last : (byte n : ℕ) → read_all byte n ≡ true → eqb byte 1 ≡ false
  unfolding read_all
  read_last byte n e = not-true (eqb byte 1) (both _ _ e).0

  ok_last : (o : ℕ) → eqb o 0 ≡ true → eqb o 10 ≡ false
  ok_last o e = zero_fine o (eqb-true o 0 e)

  pub call_ok : (d : Dev) (c : Call) → ok_m plan g c d ≡ true → eqb (last_of (call_m plan g c d)) 10 ≡ false
  unfolding seen onward
  call_ok d (look i) e = rw (read_last (turn plan d.place) 512 e)
  call_ok d (header i ys) e = ok_last (last_of (header_write_m plan g i ys d)) e
  call_ok d (flush i) e = ok_last (last_of (flush_m plan d)) e
  call_ok d (truncate i n) e = ok_last (last_of (data_truncate_m plan g i n d)) e
  call_ok d (store i at ys) e = ok_last (last_of (data_write_m plan g i at ys d)) e
  call_ok d (load i at n) e = rw (read_last (turn plan d.place) n e)

  call_given : (d : Dev) (c : Call) → eqb (last_of (call_m plan g c d)) 10 ≡ true → given_m plan g c d ≡ []
  unfolding seen onward given
  call_given d (look i) f = rw (cond_ten (eqb (turn plan d.place) 1) f)
  call_given d (header i ys) f = refl
  call_given d (flush i) f = refl
  call_given d (truncate i n) f = refl
  call_given d (store i at ys) f = refl
  call_given d (load i at n) f = rw (cond_ten (eqb (turn plan d.place) 1) f)

  -- ---- header writes

  module _ (d : Dev) (i : ℕ) (ys : List ℕ) (s : Shape g d.bytes d.phys) (r : i < length d.phys) (o : length ys ≡ 512) where
    block_short : length (block_of g i d) ≤ 512
    block_short = simp length-take (omega arith)

    header_written : eqb (last_of (write_m plan g i 0 ys d)) 0 ≡ true → block_of g i (write_m plan g i 0 ys d) ≡ ys
    header_written f = go (write_out i 0 ys d)
      where
        go : Wrote i 0 ys d (write_m plan g i 0 ys d) → block_of g i (write_m plan g i 0 ys d) ≡ ys
        go (inl w) = absurd (false≢true (sym (ten_fails _ w.1) ∙ f))
        go (inr w) =
            let n = count 0 ys d in
            let e : take n ys ≡ ys = take_all n ys (short_zero n (length ys) (ap (λ (k : ℕ). eqb k 0) (sym w.1) ∙ f)) in
            let l : length (block_of g i d) ≤ length ys = omega (arith, block_short) in
            ap (block_of g i) (w.0 ∙ ap (λ (x : List ℕ). noted plan (short n (length ys)) (stored g i 0 x d)) e)
            ∙ top_block d i s r ys (omega arith)
            ∙ ap (λ (x : List ℕ). ys ++ x) (drop_of_length-le (block_of g i d) l)
            ∙ append-nil ys

    header_torn : eqb (last_of (write_m plan g i 0 ys d)) 0 ≡ false → eqb (last_of (write_m plan g i 0 ys d)) 10 ≡ false
        → block_of g i (write_m plan g i 0 ys d) ≡ take 256 ys ++ drop 256 (block_of g i d)
    unfolding stores
    header_torn f t = go (write_out i 0 ys d)
      where
        go : Wrote i 0 ys d (write_m plan g i 0 ys d) → block_of g i (write_m plan g i 0 ys d) ≡ take 256 ys ++ drop 256 (block_of g i d)
        go (inl w) = absurd (ten_not _ w.1 t)
        go (inr w) =
            let byte = turn plan d.place in
            let n = count 0 ys d in
            let m : min (length ys) (g.size - 0) ≡ 512 = omega (arith, s.least) in
            let l : n < length ys = short_some n (length ys) (ap (λ (k : ℕ). eqb k 0) (sym w.1) ∙ f) in
            let h : n ≡ 256 = ap (share byte) m ∙ half byte (omega (arith, ap (share byte) m)) in
            let k : length (take 256 ys) ≡ 256 = length-take-le 256 ys (omega arith) in
            ap (block_of g i) (w.0 ∙ ap (λ (x : ℕ). noted plan (short n (length ys)) (stored g i 0 (take x ys) d)) h)
            ∙ top_block d i s r (take 256 ys) (omega arith)
            ∙ ap (λ (x : ℕ). take 256 ys ++ drop x (block_of g i d)) k

  -- ---- reads

  module _ (d : Dev) (i : ℕ) (s : Shape g d.bytes d.phys) (r : i < length d.phys) where
    pub block_long : length (block_of g i d) ≡ min 512 (phys_of i d)
    block_long = simp length-take (omega (arith, part_size d i s r, s.least))

    -- a front of a header read's bytes is one of the block
    front_block : (k : ℕ) → k ≤ min 512 (phys_of i d) → take k (drop 0 (take (phys_of i d) (part_of g.size i d.bytes))) ≡ take k (block_of g i d)
    front_block k l =
        take-take k (phys_of i d) (part_of g.size i d.bytes) (omega arith) ∙ sym (take-take k (min 512 (phys_of i d)) (part_of g.size i d.bytes) l)

    look_all : read_all (turn plan d.place) 512 ≡ true → given plan g i 0 512 d ≡ block_of g i d
    unfolding read_all
    look_all e =
        let byte = turn plan d.place in
        let a = both _ _ e in
        let m : min 512 (phys_of i d - 0) ≡ min 512 (phys_of i d) = omega arith in
        let k : share byte (min 512 (phys_of i d - 0)) ≡ min 512 (phys_of i d) = share_all byte 512 (phys_of i d - 0) (eqb-true (share byte 512) 512 a.1) ∙ m in
        given_is d i s r 0 512 (not-true (eqb byte 1) a.0)
        ∙ ap (λ (x : ℕ). take x (drop 0 (take (phys_of i d) (part_of g.size i d.bytes)))) k
        ∙ front_block (min 512 (phys_of i d)) (omega arith)
        ∙ take_all (min 512 (phys_of i d)) (block_of g i d) (omega (arith, block_long))

    look_half : read_all (turn plan d.place) 512 ≡ false → eqb (turn plan d.place) 1 ≡ false → given plan g i 0 512 d ≡ take (length (block_of g i d) / 2) (block_of g i d)
    unfolding read_all
    look_half e f =
        let byte = turn plan d.place in
        let n : (share byte 512 ≡ 512 → ⊥) = λ q. false≢true (sym e ∙ rw (f, eq-eqb (share byte 512) 512 q)) in
        let k : share byte (min 512 (phys_of i d - 0)) ≡ length (block_of g i d) / 2 = share_half byte 512 (min 512 (phys_of i d - 0)) n ∙ ap (λ (x : ℕ). x / 2) (omega (arith, block_long)) in
        given_is d i s r 0 512 f
        ∙ ap (λ (x : ℕ). take x (drop 0 (take (phys_of i d) (part_of g.size i d.bytes)))) k
        ∙ front_block (length (block_of g i d) / 2) (omega (arith, block_long))

    load_all : (at n : ℕ) → read_all (turn plan d.place) n ≡ true → given plan g i at n d ≡ take n (drop at (take (phys_of i d) (part_of g.size i d.bytes)))
    unfolding read_all
    load_all at n e =
        let byte = turn plan d.place in
        let a = both _ _ e in
        let l : List ℕ = drop at (take (phys_of i d) (part_of g.size i d.bytes)) in
        let w : length l ≡ phys_of i d - at = simp (length-drop, length-take) (omega (arith, part_size d i s r, s.within i r)) in
        let k : share byte (min n (phys_of i d - at)) ≡ min n (length l) = share_all byte n (phys_of i d - at) (eqb-true (share byte n) n a.1) ∙ ap (min n) (sym w) in
        given_is d i s r at n (not-true (eqb byte 1) a.0) ∙ ap (λ (x : ℕ). take x l) k ∙ take_min n l

  -- ---- what the plan leaves alone

  module _ (d : Dev) (e : stops (turn plan d.place) ≡ false) where
    calm_read : (n : ℕ) → read_all (turn plan d.place) n ≡ true
    unfolding read_all
    calm_read n = rw (calm_one _ e, calm_share _ n e, eq-eqb n n refl)

    calm_write : (i pos : ℕ) (ys : List ℕ) → pos + length ys ≤ g.size → eqb (last_of (write_m plan g i pos ys d)) 0 ≡ true
    unfolding write_m stores onward
    calm_write i pos ys l =
        let m : min (length ys) (g.size - pos) ≡ length ys = omega arith in
        rw (calm_one _ e, le-ltb g.size pos (omega arith), m, calm_share _ (length ys) e, short_none (length ys) (length ys) (omega arith))

    calm_truncate : (i len : ℕ) → len ≤ g.size → eqb (last_of (truncate_m plan g i len d)) 0 ≡ true
    unfolding truncate_m onward
    calm_truncate i len l = rw (e, le-ltb g.size len l)

  pub call_calm : (d : Dev) (c : Call) → Shape g d.bytes d.phys → sound c ≡ true → stops (turn plan d.place) ≡ false → Inside g.size c → ok_m plan g c d ≡ true
  unfolding header_write_m data_write_m data_truncate_m flush_m flushed onward
  call_calm d (look i) s o e h = calm_read d e 512
  call_calm d (header i ys) s o e h = calm_write d e i 0 ys (omega (arith, s.least, eqb-true (length ys) 512 o))
  call_calm d (flush i) s o e h = rw e
  call_calm d (truncate i n) s o e h = calm_truncate d e i (512 + n) h
  call_calm d (store i at ys) s o e h = calm_write d e i (512 + at) ys h
  call_calm d (load i at n) s o e h = calm_read d e n

  -- ---- the calls that may be made

  -- a call that may be made is the model's
  pub acts : (d : Dev) (c : Call) → Shape g d.bytes d.phys → slot_of c < length d.phys → sound c ≡ true → act_m plan g d c ≡ call_m plan g c d
  acts d c s r o = rw (be_may d c s r o)

  -- what holds where nothing is done, and of the model's call, holds of the call
  pub by_may : (d : Dev) (c : Call) (P : Dev → Type 0) → P d → (Shape g d.bytes d.phys → slot_of c < length d.phys → sound c ≡ true → P (call_m plan g c d)) → P (act_m plan g d c)
  by_may d c P same made = go (may g d c) refl
    where
      go : (t : Bool) → may g d c ≡ t → P (cond t (call_m plan g c d) d)
      go true e = made (may_be d c e).0 (may_be d c e).1 (may_be d c e).2
      go false e = same

  -- a call that did not fail may be made, and did not come to 10
  pub did_may : (d : Dev) (c : Call) → failed_m plan g d c ≡ false → (may g d c ≡ true) × (eqb (last_of (call_m plan g c d)) 10 ≡ false)
  did_may d c f = go (may g d c) refl f
    where
      go : (t : Bool) → may g d c ≡ t → cond t (eqb (last_of (call_m plan g c d)) 10) true ≡ false → (may g d c ≡ true) × (eqb (last_of (call_m plan g c d)) 10 ≡ false)
      go true e k = (e, k)
      go false e k = absurd (false≢true (sym k))

  pub ok_may : (d : Dev) (c : Call) → whole_m plan g d c ≡ true → (may g d c ≡ true) × (ok_m plan g c d ≡ true)
  ok_may d c f = go (may g d c) refl f
    where
      go : (t : Bool) → may g d c ≡ t → cond t (ok_m plan g c d) false ≡ true → (may g d c ≡ true) × (ok_m plan g c d ≡ true)
      go true e k = (e, k)
      go false e k = absurd (false≢true k)

  not_ok : (d : Dev) (c : Call) → may g d c ≡ true → whole_m plan g d c ≡ false → ok_m plan g c d ≡ false
  not_ok d c e k = rw e at k

  -- the block after a call that did not fail
  after_block : (d : Dev) (c : Call) (i : ℕ) {b : List ℕ} → may g d c ≡ true → block_of g i (call_m plan g c d) ≡ b → block_of g i (act_m plan g d c) ≡ b
  after_block d c i e k = rw e k

  pub within_all : (d : Dev) (i : ℕ) → Shape g d.bytes d.phys → phys_of i d ≤ g.size
  within_all d i s = go (ltb i (length d.phys)) refl
    where
      go : (t : Bool) → ltb i (length d.phys) ≡ t → phys_of i d ≤ g.size
      go true e = s.within i (ltb-true i (length d.phys) e)
      go false e = omega (arith, get_or-eq_default d.phys 0 (ltb-false i (length d.phys) e))

  pub failed_stays : (d : Dev) (c : Call) (j : ℕ) → failed_m plan g d c ≡ true → Same d (act_m plan g d c) j
  failed_stays d c j f = go (may g d c) f
    where
      go : (t : Bool) → cond t (eqb (last_of (call_m plan g c d)) 10) true ≡ true → Same d (cond t (call_m plan g c d) d) j
      go true k = call_failed d c j k
      go false k = (refl, refl)

  pub other_stays : (d : Dev) (c : Call) (j : ℕ) → j ≢ slot_of c → Same d (act_m plan g d c) j
  other_stays d c j ne = by_may d c (λ x. Same d x j) (refl, refl) (λ s r o. call_other d c j s r ne)

  -- a header write of a block
  pub written : (d : Dev) (i : ℕ) (ys : List ℕ) → whole_m plan g d (header i ys) ≡ true → block_of g i (act_m plan g d (header i ys)) ≡ ys
  unfolding header_write_m
  written d i ys f =
      let k = ok_may d (header i ys) f in
      let m = may_be d (header i ys) k.0 in
      after_block d (header i ys) i k.0 (header_written d i ys m.0 m.1 (eqb-true (length ys) 512 m.2) k.1)

  pub torn : (d : Dev) (i : ℕ) (ys : List ℕ) → whole_m plan g d (header i ys) ≡ false → failed_m plan g d (header i ys) ≡ false
      → block_of g i (act_m plan g d (header i ys)) ≡ take 256 ys ++ drop 256 (block_of g i d)
  unfolding header_write_m
  torn d i ys f t =
      let k = did_may d (header i ys) t in
      let m = may_be d (header i ys) k.0 in
      after_block d (header i ys) i k.0 (header_torn d i ys m.0 m.1 (eqb-true (length ys) 512 m.2) (not_ok d (header i ys) k.0 f) k.1)

  pub file_block : (d : Dev) (c : Call) → on_file c ≡ true → failed_m plan g d c ≡ false → block_of g (slot_of c) (act_m plan g d c) ≡ pad 512 (block_of g (slot_of c) d)
  file_block d c o f =
      let k = did_may d c f in
      let m = may_be d c k.0 in
      after_block d c (slot_of c) k.0 (call_block d c m.0 m.1 o k.1)

  pub whole : (d : Dev) (c : Call) → Whole (λ i. phys_of i d) → whole_m plan g d c ≡ true → Whole (λ i. phys_of i (act_m plan g d c))
  whole d c w f i = go (ℕ_discrete i (slot_of c))
    where
      go : Dec (i ≡ slot_of c) → (phys_of i (act_m plan g d c) ≡ 0) ⊎ (512 ≤ phys_of i (act_m plan g d c))
      go (yes e) =
          let k = ok_may d c f in
          let m = may_be d c k.0 in
          rw (e, k.0) (call_whole d c m.0 m.1 m.2 k.1 (w (slot_of c)))
      go (no ne) = rw (other_stays d c i ne).1 (w i)

  pub look_given : (d : Dev) (i : ℕ) → whole_m plan g d (look i) ≡ true → given_by plan g d (look i) ≡ block_of g i d
  look_given d i f =
      let k = ok_may d (look i) f in
      let m = may_be d (look i) k.0 in
      rw k.0 (look_all d i m.0 m.1 k.1)

  pub half_given : (d : Dev) (i : ℕ) → whole_m plan g d (look i) ≡ false → failed_m plan g d (look i) ≡ false
      → given_by plan g d (look i) ≡ take (length (block_of g i d) / 2) (block_of g i d)
  unfolding seen onward
  half_given d i f t =
      let k = did_may d (look i) t in
      let m = may_be d (look i) k.0 in
      rw k.0 (look_half d i m.0 m.1 (not_ok d (look i) k.0 f) (cond_not_ten (eqb (turn plan d.place) 1) k.1))

  pub load_given : (d : Dev) (i at n : ℕ) → whole_m plan g d (load i at n) ≡ true
      → given_by plan g d (load i at n) ≡ take n (drop (512 + at) (take (phys_of i d) (part_of g.size i d.bytes)))
  load_given d i at n f =
      let k = ok_may d (load i at n) f in
      let m = may_be d (load i at n) k.0 in
      rw k.0 (load_all d i m.0 m.1 (512 + at) n k.1)

  pub none_given : (d : Dev) (c : Call) → failed_m plan g d c ≡ true → given_by plan g d c ≡ []
  none_given d c f = go (may g d c) f
    where
      go : (t : Bool) → cond t (eqb (last_of (call_m plan g c d)) 10) true ≡ true → cond t (given_m plan g c d) [] ≡ []
      go true k = call_given d c k
      go false k = refl

  pub last_ok : (d : Dev) (c : Call) → reads c ≡ false → ok_m plan g c d ≡ eqb (last_of (call_m plan g c d)) 0
  last_ok d (look i) q = absurd (false≢true (sym q))
  last_ok d (header i ys) q = refl
  last_ok d (flush i) q = refl
  last_ok d (truncate i n) q = refl
  last_ok d (store i at ys) q = refl
  last_ok d (load i at n) q = absurd (false≢true (sym q))

  -- the lent slice keeps its length
  pub bytes_stay : (d : Dev) (c : Call) → length (act_m plan g d c).bytes ≡ length d.bytes
  bytes_stay d c =
      by_may d c (λ x. length x.bytes ≡ length d.bytes) refl
      (λ s r o. (call_shape d c s r).slots ∙ ap (λ (k : ℕ). g.size * k) (call_slots d c) ∙ sym s.slots)
