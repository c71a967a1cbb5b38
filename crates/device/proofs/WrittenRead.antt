-- What was written is read: a write that was done stored all its bytes (`wrote_is`), a read of them gives them (`given_back`), and every
-- other byte of the slot below its old physical length is as it was (`byte_stays`).
use Prim.Native.Nat.{ℕ, ◌+◌, ◌-◌, ◌≤◌, ◌<◌, min}
use native.Mathlib.Omega.{arith}
use mathlib.Core.Path.{◌≡◌, refl, ap, ap₂, ◌∙◌}
use mathlib.Core.Logic.{◌⊎◌, inl, inr}
use mathlib.Core.Bool.{Bool, true, false, cond}
use mathlib.Core.List.{List, []}
use lib.Dec.{eqb, ltb}
use lib.ListN.{length, take, drop, replicate, length-replicate}
use lib.Seq.{take_all}
use borrow.Author.Tests.{ltb-false}
use Rattle.lists.specs.Fronts.{take_inside}
use Rattle.le.specs.Le.{laid}
use Rattle.le.proofs.Parts.{length_laid, laid_read, laid_read_before, laid_read_behind}
use Rattle.device.specs.declared.Geometry.{Geometry}
use Rattle.device.specs.Device.{Dev, Shape, turn, onward, noted, short, stores, phys_of, given, stored, write_m}
use Rattle.device.specs.Slots.{part_of, share_le}
use Rattle.device.specs.AnyDevice.{load}
use Rattle.device.specs.Calls.{read_all}
use Rattle.device.proofs.CallByCall.{be_may, load_given, part_size, stored_part, stored_phys_lem}

-- ---- a write that was done

short_none : (n m : ℕ) → short n m ≡ 0 → m ≤ n
unfolding short
short_none n m e = go (ltb n m) refl e
  where
    go : (t : Bool) → ltb n m ≡ t → ◌≡◌ {A = ℕ} (cond t 11 0) 0 → m ≤ n
    go true q f = absurd (omega arith)
    go false q f = ltb-false n m q

-- It stored all its bytes, within the slot.
pub wrote_is : (plan : List ℕ) (g : Geometry) (i pos : ℕ) (src : List ℕ) (d : Dev) → (write_m plan g i pos src d).place.last ≡ 0
    → (write_m plan g i pos src d ≡ noted plan 0 (stored g i pos src d)) × (pos + length src ≤ g.size)
unfolding write_m onward stores
wrote_is plan g i pos src d z = go (eqb (turn plan d.place) 1) (ltb g.size pos) refl z
  where
    n : ℕ
    n = stores (turn plan d.place) g.size pos (length src)

    ends : Bool → Bool → Dev
    ends s t = cond s (noted plan 10 d) (cond t (noted plan 10 d) (noted plan (short n (length src)) (stored g i pos (take n src) d)))

    AtMost : n ≤ min (length src) (g.size - pos)
    AtMost = share_le (turn plan d.place) (min (length src) (g.size - pos))

    go : (s t : Bool) → ltb g.size pos ≡ t → (ends s t).place.last ≡ 0
        → (ends s t ≡ noted plan 0 (stored g i pos src d)) × (pos + length src ≤ g.size)
    go true t e q = absurd (omega arith)
    go false true e q = absurd (omega arith)
    go false false e q =
        let l : length src ≤ n = short_none n (length src) q in
        let p : pos ≤ g.size = ltb-false g.size pos e in (
          ap₂ (λ (k : ℕ) (s : List ℕ). noted plan k (stored g i pos s d)) q (take_all n src l),
          omega (arith, AtMost),
        )

-- ---- the slot's part after it

module _ (g : Geometry) (d : Dev) (i : ℕ) (s : Shape g d.bytes d.phys) (r : i < length d.phys) (pos : ℕ) (b : List ℕ)
    (fits : pos + length b ≤ g.size) where
  abbrev part : List ℕ
  part = part_of g.size i d.bytes

  abbrev zeros : List ℕ
  zeros = replicate (pos - phys_of i d) 0

  -- with zeros up to the place
  abbrev filled : List ℕ
  filled = laid part (phys_of i d) zeros

  filled_long : length filled ≡ g.size
  filled_long =
      let n = part_size [] g d i s r in
      let z : phys_of i d + length zeros ≤ g.size = simp length-replicate (omega (arith, s.within i r)) in
      length_laid part (phys_of i d) zeros (omega (arith, z, n)) ∙ n

  -- what was stored is read,
  read_back : take (length b) (drop pos (take (phys_of i (stored g i pos b d)) (part_of g.size i (stored g i pos b d).bytes))) ≡ b
  read_back =
      let e = stored g i pos b d in
      take_inside pos (length b) (phys_of i e) (part_of g.size i e.bytes) (omega (arith, stored_phys_lem [] g d i s r pos b fits))
      ∙ ap (λ (p : List ℕ). take (length b) (drop pos p)) (stored_part [] g d i s r pos b fits)
      ∙ laid_read filled pos b (omega (arith, filled_long))

  -- and every other byte below the old length is as it was.
  pub byte_stays : (k : ℕ) → k < phys_of i d → (k < pos) ⊎ (pos + length b ≤ k)
      → take 1 (drop k (part_of g.size i (stored g i pos b d).bytes)) ≡ take 1 (drop k part)
  byte_stays k h e =
      let n = part_size [] g d i s r in
      ap (λ (p : List ℕ). take 1 (drop k p)) (stored_part [] g d i s r pos b fits) ∙ go e
      ∙ laid_read_before part (phys_of i d) zeros (omega (arith, s.within i r, n)) k 1 (omega arith)
    where
      go : (k < pos) ⊎ (pos + length b ≤ k) → take 1 (drop k (laid filled pos b)) ≡ take 1 (drop k filled)
      go (inl e) = laid_read_before filled pos b (omega (arith, filled_long)) k 1 (omega arith)
      go (inr e) = laid_read_behind filled pos b (omega (arith, filled_long)) k 1 e

-- A read of the file, from where b was written on and of as many bytes, gives b, where the plan neither fails nor halves it.
pub given_back : (g : Geometry) (d : Dev) (i : ℕ) → Shape g d.bytes d.phys → i < length d.phys → (pos : ℕ) (b : List ℕ)
    → 512 + pos + length b ≤ g.size → (plan old : List ℕ) (e : Dev) → e ≡ noted old 0 (stored g i (512 + pos) b d)
    → Shape g e.bytes e.phys → i < length e.phys → read_all (turn plan e.place) (length b) ≡ true
    → given plan g i (512 + pos) (length b) e ≡ b
given_back g d i s r pos b fits plan old e is s' r' calm =
    let m = be_may plan g e (load i pos (length b)) s' r' refl in
    let q = load_given plan g e i pos (length b) (rw m calm) in
    (rw m at q)
    ∙ ap (λ (x : Dev). take (length b) (drop (512 + pos) (take (phys_of i x) (part_of g.size i x.bytes)))) is
    ∙ read_back g d i s r (512 + pos) b fits
