-- Laws of little-endian numbers, over the width.
use Prim.Native.Nat.{ℕ, zero, suc, ◌+◌, ◌*◌, ◌/◌, ◌%◌, ◌^◌, ◌<◌, ◌≤◌}
use mathlib.Core.Path.{◌≡◌, refl, sym, ap, ◌∙◌}
use mathlib.Core.List.{List, [], ◌∷◌}
use native.Mathlib.Nat.{pow-suc}
use native.Mathlib.Omega.{arith}
use lib.Dec.{lit<}
use lib.ListN.{length, take, drop, length-take, length-drop}
use lib.Seq.{get_or-drop}
use Rattle.le.specs.Le.{le, unle, field, Bytes}

pub length_le : (w x : ℕ) → length (le w x) ≡ w
length_le zero x = refl
length_le (suc w) x = ap suc (length_le w (x / 256))

-- A number that fits its width is read back as it was written.
pub unle_le : (w x : ℕ) → x < 256 ^ w → unle (le w x) ≡ x
unle_le zero x h = omega arith
unle_le (suc w) x h =
    let g : x < 256 ^ w * 256 = rw (pow-suc 256 w) at h in
    omega (arith, unle_le w (x / 256) (omega arith))

-- Bytes are written back as they were read.
pub le_unle : (s : List ℕ) → Bytes s → le (length s) (unle s) ≡ s
le_unle [] h = refl
le_unle (b ∷ s) h =
    let l : b < 256 = h 0 in
    let q : (unle s * 256 + b) / 256 ≡ unle s = omega arith in
    let r : (unle s * 256 + b) % 256 ≡ b = omega arith in
    rw (q, r) (ap (λ (t : List ℕ). b ∷ t) (le_unle s (λ i. h (suc i))))

-- What is read fits its width.
pub unle_lt : (s : List ℕ) → Bytes s → unle s < 256 ^ length s
unle_lt [] h = omega arith
unle_lt (b ∷ s) h = rw (pow-suc 256 (length s)) (omega (arith, h 0, unle_lt s (λ i. h (suc i))))

-- A part of bytes is bytes.
pub bytes_take : (w : ℕ) (s : List ℕ) → Bytes s → Bytes (take w s)
bytes_take zero s y i = lit< tt
bytes_take (suc w) [] y i = lit< tt
bytes_take (suc w) (x ∷ s) y zero = y 0
bytes_take (suc w) (x ∷ s) y (suc i) = bytes_take w s (λ j. y (suc j)) i

pub bytes_drop : (a : ℕ) (s : List ℕ) → Bytes s → Bytes (drop a s)
bytes_drop a s y i = rw get_or-drop (y (a + i))

-- The bytes of a field are those of the number that is read there.
pub field_back : (d : List ℕ) (at w : ℕ) → Bytes d → at + w ≤ length d → le w (field d at w) ≡ take w (drop at d)
field_back d at w y l =
    let s : List ℕ = take w (drop at d) in
    let n : length s ≡ w = simp (length-take, length-drop) (omega arith) in
    ap (λ (k : ℕ). le k (unle s)) (sym n) ∙ le_unle s (bytes_take w (drop at d) (bytes_drop at d y))
