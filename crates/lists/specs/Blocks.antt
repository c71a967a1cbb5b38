-- Lists in flat form: blocks of one width behind each other, zero filled to a length. Slot rows, directory rows and the queue are laid out so;
-- the laws are stated once, over the rows' type and width.
use Rattle.std.specs.Prelude.{◌≡◌, ℕ, zero, suc, ◌+◌, ◌-◌, ◌*◌, ◌<◌, ◌≤◌, List, [], ◌∷◌, ◌++◌, length, take, drop, replicate, slice_index, slice_index_or, slice_set, refl}
use Rattle.std.proofs.Common.{ap, ◌∙◌, add-zero, zero-add, suc-add, add-suc, mul-le-mul_right, not-suc-le-zero, le_of_suc-le-suc, length-take, length-set, take_all, take_at}
use mathlib.Core.List.{append_assoc}
use native.Mathlib.Omega.{arith}
use Rattle.std.proofs.Math.ListN.{length-append, get_or-append}
use Rattle.std.proofs.lemmas.List.{length-replicate, take-append-le, set_at, set-append_left}
use Rattle.std.proofs.lemmas.List.Edits.{sets}
use Rattle.std.proofs.Math.Seq.{sets-eq, length-sets, drop_at, drop-append-add, get_or-append-add}
use Rattle.lists.specs.Fronts.{drop_zeros, take_zeros}

-- xs, cut or zero filled to the length w
unfoldable pub pad : ℕ → List ℕ → List ℕ
pad w xs = take w xs ++ replicate (w - length xs) 0

pub length_pad : (w : ℕ) (xs : List ℕ) → length (pad w xs) ≡ w
unfolding pad
length_pad w xs = simp (length-append, length-replicate, length-take) (omega arith)

pub pad_fits : (w : ℕ) (xs : List ℕ) → length xs ≤ w → pad w xs ≡ xs ++ replicate (w - length xs) 0
unfolding pad
pad_fits w xs h = rw (take_all w xs h)

pub take_pad : (w : ℕ) (xs : List ℕ) → length xs ≤ w → take (length xs) (pad w xs) ≡ xs
take_pad w xs h = rw (pad_fits w xs h, take_at xs (replicate (w - length xs) 0) (length xs) refl)

get_or_zeros : (n j : ℕ) → ◌≡◌ {A = ℕ} (slice_index (replicate n 0) j) 0
get_or_zeros zero j = refl
get_or_zeros (suc n) zero = refl
get_or_zeros (suc n) (suc j) = get_or_zeros n j

get_or_behind : (xs : List ℕ) (n j : ℕ) → slice_index (xs ++ replicate n 0) j ≡ slice_index xs j
get_or_behind [] n j = get_or_zeros n j
get_or_behind (x ∷ xs) n zero = refl
get_or_behind (x ∷ xs) n (suc j) = get_or_behind xs n j

pub get_or_pad : (w : ℕ) (xs : List ℕ) (j : ℕ) → length xs ≤ w → slice_index (pad w xs) j ≡ slice_index xs j
get_or_pad w xs j h = rw (pad_fits w xs h, get_or_behind xs (w - length xs) j)

sets_left : (vs xs ys : List ℕ) (i : ℕ) → i + length vs ≤ length xs → sets (xs ++ ys) i vs ≡ sets xs i vs ++ ys
sets_left [] xs ys i h = refl
sets_left (v ∷ vs) xs ys i h =
    rw (set-append_left xs ys i v (omega arith)) (sets_left vs (slice_set xs i v) ys (suc i) (simp length-set (omega arith)))

pub sets_pad : (w : ℕ) (xs vs : List ℕ) (i : ℕ) → i + length vs ≤ length xs → length xs ≤ w → sets (pad w xs) i vs ≡ pad w (sets xs i vs)
sets_pad w xs vs i h k =
    let e : length (sets xs i vs) ≤ w = simp length-sets k in
    rw (pad_fits w xs k, pad_fits w (sets xs i vs) e, length-sets xs i vs) (sets_left vs xs (replicate (w - length xs) 0) i h)

-- one element more, in the first free place
pub snoc_pad : (w : ℕ) (xs : List ℕ) (a : ℕ) → length xs < w → slice_set (pad w xs) (length xs) a ≡ pad w (xs ++ a ∷ [])
snoc_pad w xs a h =
    let e : length (xs ++ a ∷ []) ≤ w = simp length-append (omega arith) in
    let z : w - length xs ≡ suc (w - length (xs ++ a ∷ [])) = simp length-append (omega arith) in
    rw (pad_fits w xs (omega arith), pad_fits w (xs ++ a ∷ []) e, z, append_assoc) (set_at xs 0 (replicate (w - length (xs ++ a ∷ [])) 0) a (length xs) refl)

-- ---- blocks

unfoldable pub cat : {A : Type 0} → (A → List ℕ) → List A → List ℕ
cat f [] = []
cat f (r ∷ rs) = f r ++ cat f rs

pub cat_append : {A : Type 0} (f : A → List ℕ) (rs ts : List A) → cat f (rs ++ ts) ≡ cat f rs ++ cat f ts
unfolding cat
cat_append f [] ts = refl
cat_append f (r ∷ rs) ts = rw (cat_append f rs ts, append_assoc)

set_right : (p l : List ℕ) (k a : ℕ) → slice_set (p ++ l) (length p + k) a ≡ p ++ slice_set l k a
set_right [] l k a = rw zero-add
set_right (x ∷ p) l k a = rw suc-add (ap {B = List ℕ} (λ q. x ∷ q) (set_right p l k a))

sets_right : (vs p l : List ℕ) (k : ℕ) → sets (p ++ l) (length p + k) vs ≡ p ++ sets l k vs
sets_right [] p l k = refl
sets_right (v ∷ vs) p l k = rw (set_right p l k v, ← add-suc (length p) k) (sets_right vs p (slice_set l k v) (suc k))

module _ {A : Type 0} (f : A → List ℕ) (w : ℕ) (wide : (r : A) → length (f r) ≡ w) where
  pub length_cat : (rs : List A) → length (cat f rs) ≡ length rs * w
  unfolding cat
  length_cat [] = omega arith
  length_cat (r ∷ rs) = simp length-append (omega (arith, wide r, length_cat rs))

  pub cat_drop : (rs : List A) (i : ℕ) → i ≤ length rs → drop (i * w) (cat f rs) ≡ cat f (drop i rs)
  unfolding cat
  cat_drop rs zero h = let z : 0 * w ≡ 0 = omega arith in rw z
  cat_drop [] (suc i) h = absurd (not-suc-le-zero h)
  cat_drop (r ∷ rs) (suc i) h =
      let z : suc i * w ≡ length (f r) + i * w = omega (arith, wide r) in
      rw (z, drop-append-add (f r) (cat f rs) (i * w)) (cat_drop rs i (le_of_suc-le-suc h))

  pub cat_at : (rs : List A) (i k : ℕ) (d : A) → i < length rs → k < w → slice_index (cat f rs) (i * w + k) ≡ slice_index (f (slice_index_or rs i d)) k
  unfolding cat
  cat_at [] i k d h l = absurd (not-suc-le-zero h)
  cat_at (r ∷ rs) zero k d h l =
      let z : 0 * w + k ≡ k = omega arith in
      rw z (get_or-append (f r) (cat f rs) 0 k (omega (arith, wide r)))
  cat_at (r ∷ rs) (suc i) k d h l =
      let z : suc i * w + k ≡ length (f r) + (i * w + k) = omega (arith, wide r) in
      rw (z, get_or-append-add (f r) (cat f rs) (i * w + k) 0) (cat_at rs i k d (le_of_suc-le-suc h) l)

  -- the front of block i
  pub cat_part : (rs : List A) (i k : ℕ) (d : A) (t : List ℕ) → i < length rs → k ≤ w → take k (drop (i * w) (cat f rs ++ t)) ≡ take k (f (slice_index_or rs i d))
  unfolding cat
  cat_part [] i k d t h l = absurd (not-suc-le-zero h)
  cat_part (r ∷ rs) zero k d t h l =
      let z : 0 * w ≡ 0 = omega arith in
      rw (z, append_assoc) (take-append-le k (f r) (cat f rs ++ t) (omega (arith, wide r)))
  cat_part (r ∷ rs) (suc i) k d t h l =
      let z : suc i * w ≡ length (f r) + i * w = omega (arith, wide r) in
      rw (z, append_assoc, drop-append-add (f r) (cat f rs ++ t) (i * w)) (cat_part rs i k d t (le_of_suc-le-suc h) l)

  -- a store of a whole block
  pub cat_set : (rs : List A) (i : ℕ) (r : A) → i < length rs → sets (cat f rs) (i * w) (f r) ≡ cat f (slice_set rs i r)
  unfolding cat
  cat_set [] i r h = absurd (not-suc-le-zero h)
  cat_set (x ∷ rs) zero r h =
      let z : 0 * w ≡ 0 = omega arith in
      let k : 0 + length (f r) ≤ length (f x ++ cat f rs) = simp length-append (omega (arith, wide r, wide x)) in
      let y : 0 + length (f r) ≡ length (f x) = omega (arith, wide r, wide x) in
      rw (z, sets-eq (f r) (f x ++ cat f rs) 0 k, y, drop_at (f x) (cat f rs) (length (f x)) refl)
  cat_set (x ∷ rs) (suc i) r h =
      let z : suc i * w ≡ length (f x) + i * w = omega (arith, wide x) in
      rw (z, sets_right (f r) (f x) (cat f rs) (i * w), cat_set rs i r (le_of_suc-le-suc h))

  -- in a buffer of n blocks
  roomy : (n : ℕ) (rs : List A) → length rs ≤ n → length (cat f rs) ≤ n * w
  roomy n rs m = omega (arith, length_cat rs, mul-le-mul_right w m)

  pub flat_at : (n : ℕ) (rs : List A) (i k : ℕ) (d : A) → length rs ≤ n → i < length rs → k < w → slice_index (pad (n * w) (cat f rs)) (i * w + k) ≡ slice_index (f (slice_index_or rs i d)) k
  flat_at n rs i k d m h l = get_or_pad (n * w) (cat f rs) (i * w + k) (roomy n rs m) ∙ cat_at rs i k d h l

  pub flat_part : (n : ℕ) (rs : List A) (i k : ℕ) (d : A) → length rs ≤ n → i < length rs → k ≤ w → take k (drop (i * w) (pad (n * w) (cat f rs))) ≡ take k (f (slice_index_or rs i d))
  flat_part n rs i k d m h l = rw (pad_fits (n * w) (cat f rs) (roomy n rs m)) (cat_part rs i k d (replicate (n * w - length (cat f rs)) 0) h l)

  pub flat_set : (n : ℕ) (rs : List A) (i : ℕ) (r : A) → length rs ≤ n → i < length rs → sets (pad (n * w) (cat f rs)) (i * w) (f r) ≡ pad (n * w) (cat f (slice_set rs i r))
  flat_set n rs i r m h =
      let z : i * w + length (f r) ≤ length (cat f rs) = omega (arith, wide r, length_cat rs, mul-le-mul_right {m = suc i} {n = length rs} w h) in
      sets_pad (n * w) (cat f rs) (f r) (i * w) z (roomy n rs m) ∙ rw (cat_set rs i r h)

  -- the first free block is zero
  pub flat_free : (n : ℕ) (rs : List A) → length rs < n → (i k : ℕ) → i + k ≤ w
      → take k (drop (length rs * w + i) (pad (n * w) (cat f rs))) ≡ replicate k 0
  flat_free n rs h i k l =
      let c : List ℕ = cat f rs in
      let room : length c + w ≤ n * w = omega (arith, length_cat rs, mul-le-mul_right {m = suc (length rs)} {n = n} w h) in
      let z : length rs * w + i ≡ length c + i = omega (arith, length_cat rs) in
      rw (pad_fits (n * w) c (omega arith), z, drop-append-add c (replicate (n * w - length c) 0) i, drop_zeros i (n * w - length c))
      (take_zeros k (n * w - length c - i) (omega arith))

-- ---- runs of stores

pub sets_append : (us vs l : List ℕ) (i : ℕ) → sets (sets l i us) (i + length us) vs ≡ sets l i (us ++ vs)
sets_append [] vs l i = rw add-zero
sets_append (u ∷ us) vs l i = let e : i + suc (length us) ≡ suc i + length us = omega arith in rw e (sets_append us vs (slice_set l i u) (suc i))

pub sets_four : (l : List ℕ) (k a b c d : ℕ) → slice_set (slice_set (slice_set (slice_set l k a) (k + 1) b) (k + 2) c) (k + 3) d ≡ sets l k (a ∷ b ∷ c ∷ d ∷ [])
sets_four l k a b c d =
    let e1 : k + 1 ≡ suc k = omega arith in
    let e2 : k + 2 ≡ suc (suc k) = omega arith in
    let e3 : k + 3 ≡ suc (suc (suc k)) = omega arith in
    rw (e1, e2, e3)

pub sets_padded : (l m n p : List ℕ) (w at : ℕ) → length p ≤ w → m ≡ sets l at p → n ≡ sets m (at + length p) (replicate (w - length p) 0) → n ≡ sets l at (pad w p)
sets_padded l m n p w at h a b = b ∙ ap (λ (x : List ℕ). sets x (at + length p) (replicate (w - length p) 0)) a ∙ sets_append p (replicate (w - length p) 0) l at ∙ rw (pad_fits w p h)
