-- Blocks of zeros behind the last one of a flat form are its fill: a list may grow by them, and shrink again, where it lies.
use Rattle.std.specs.Prelude.{◌≡◌, ℕ, zero, suc, ◌+◌, ◌-◌, ◌*◌, ◌≤◌, List, ◌++◌, length, replicate, slice_index}
use Rattle.std.proofs.Common.{sym, ap, ◌∙◌, append_assoc, mul-le-mul_right, length-append}
use native.Mathlib.Omega.{arith}
use Rattle.std.proofs.Math.ListN.{get_or-eq_default, replicate-append-replicate}
use Rattle.std.proofs.lemmas.List.{length-replicate}
use Rattle.lists.specs.Blocks.{pad, cat, pad_fits, get_or_pad, cat_append, length_cat}

pub pad_zeros : (w : ℕ) (xs : List ℕ) (k : ℕ) → length xs + k ≤ w → pad w (xs ++ replicate k 0) ≡ pad w xs
pad_zeros w xs k h =
    let b : length (xs ++ replicate k 0) ≡ length xs + k = simp (length-append, length-replicate) in
    let z : k + (w - (length xs + k)) ≡ w - length xs = omega arith in
    rw (pad_fits w (xs ++ replicate k 0) (omega arith), pad_fits w xs (omega arith), b, append_assoc, replicate-append-replicate {A = ℕ} k (w - (length xs + k)) 0, z)

-- behind the list a padded one has nothing but zeros
pub rest_zero : (w n : ℕ) (l b : List ℕ) → pad w l ≡ b → length l ≡ n → n ≤ w → (j : ℕ) → n ≤ j → slice_index b j ≡ 0
rest_zero w n l b e k h j i =
    let past : length l ≤ j = omega arith in
    ap (λ (x : List ℕ). slice_index x j) (sym e) ∙ get_or_pad w l j (omega arith) ∙ get_or-eq_default l 0 past

module _ {A : Type 0} (f : A → List ℕ) (w : ℕ) (wide : (r : A) → length (f r) ≡ w) (d : A) (blank : f d ≡ replicate w 0) where
  cat_zeros : (k : ℕ) → cat f (replicate k d) ≡ replicate (k * w) 0
  unfolding cat
  cat_zeros zero = let z : 0 * w ≡ 0 = omega arith in rw z
  cat_zeros (suc k) =
      let z : w + k * w ≡ suc k * w = omega arith in
      rw (blank, cat_zeros k, replicate-append-replicate {A = ℕ} w (k * w) 0, z)

  pub flat_more : (n : ℕ) (rs : List A) (k : ℕ) → length rs + k ≤ n → pad (n * w) (cat f (rs ++ replicate k d)) ≡ pad (n * w) (cat f rs)
  flat_more n rs k h =
      let z : length (cat f rs) + k * w ≤ n * w = omega (arith, length_cat f w wide rs, mul-le-mul_right w h) in
      rw (cat_append f rs (replicate k d), cat_zeros k) (pad_zeros (n * w) (cat f rs) (k * w) z)
