-- Laws of output: what is put out in parts is put out as a whole.
use Prim.Native.Nat.{ℕ, suc, ◌+◌, ◌<◌, ◌≤◌}
use mathlib.Core.Path.{◌≡◌, refl, sym, ap, ap₂, ◌∙◌}
use mathlib.Core.List.{List, [], ◌∷◌, ◌++◌}
use native.Mathlib.Numerals.{add-one}
use native.Mathlib.Nat.{add-zero, zero-add}
use native.Mathlib.Omega.{arith}
use lib.ListN.{length, get_or, take, drop, set, length-append, drop_of_length-le}
use lib.Seq.{sets, drop-nil, length-sets, drop-cons}
use Rattle.lists.specs.Blocks.{cat, sets_append}
use Rattle.output.specs.Writer.{Shown, shown, pours, poured}

pub pours_none : (o : Shown) → pours [] o ≡ o
unfolding pours
pours_none o = ap (shown o.out) (add-zero o.at)

-- xs, and then ys
pub pours_append : (xs ys : List ℕ) (o : Shown) → pours ys (pours xs o) ≡ pours (xs ++ ys) o
unfolding pours
pours_append xs ys o =
    let n : o.at + length xs + length ys ≡ o.at + length (xs ++ ys) = rw length-append (omega arith) in
    ap₂ shown (sets_append xs ys o.out o.at) n

pub pours_at : (xs : List ℕ) (o : Shown) → (pours xs o).at ≡ o.at + length xs
unfolding pours
pours_at xs o = refl

-- The whole output, from the start on.
sets_front : (xs l : List ℕ) → sets l 0 xs ≡ take (length l) xs ++ drop (length xs) l
sets_front xs [] = go xs 0 ∙ sym (ap (λ (r : List ℕ). take 0 xs ++ r) (drop-nil (length xs)))
  where
    go : (ys : List ℕ) (i : ℕ) → sets [] i ys ≡ []
    go [] i = refl
    go (y ∷ ys) i = go ys (suc i)
sets_front [] (a ∷ l) = refl
sets_front (x ∷ xs) (a ∷ l) = behind xs l x 0 ∙ ap {B = List ℕ} (λ r. x ∷ r) (sets_front xs l)
  where
    behind : (ys m : List ℕ) (y i : ℕ) → sets (y ∷ m) (suc i) ys ≡ y ∷ sets m i ys
    behind [] m y i = refl
    behind (z ∷ ys) m y i = behind ys (set m i z) y (suc i)

pub pours_all : (xs out : List ℕ) → pours xs (shown out 0) ≡ poured xs out
unfolding pours poured
pours_all xs out = ap₂ shown (sets_front xs out) (zero-add (length xs))

-- One byte, and then the rest.
pub pours_byte : (x : ℕ) (xs : List ℕ) (o : Shown) {o' : Shown} → o' ≡ pours (x ∷ []) o → pours xs o' ≡ pours (x ∷ xs) o
pours_byte x xs o e = ap (pours xs) e ∙ pours_append (x ∷ []) xs o

-- The count after it.
pub after_pours : (xs : List ℕ) (o : Shown) {o' : Shown} → o' ≡ pours xs o → o'.at ≡ o.at + length xs
after_pours xs o e = ap (λ (s : Shown). s.at) e ∙ pours_at xs o

-- Two writers, one after the other: what they put out is one list.
pub pours_then : (xs ys : List ℕ) (o : Shown) {o' r : Shown} → o' ≡ pours xs o → r ≡ pours ys o' → r ≡ pours (xs ++ ys) o
pours_then xs ys o e f = f ∙ ap (pours ys) e ∙ pours_append xs ys o

-- The buffer keeps its length.
pub length_poured : (xs : List ℕ) (o : Shown) → length (pours xs o).out ≡ length o.out
unfolding pours
length_poured xs o = length-sets o.out o.at xs

-- A loop that puts out what each element comes to: element k, and then the rest; and nothing behind the last.
module _ {A : Type 0} (f : A → List ℕ) (xs : List A) (k : ℕ) where
  pub cat_turn : (d : A) (o : Shown) {o' : Shown} → k < length xs → o' ≡ pours (f (get_or xs k d)) o
      → pours (cat f (drop (k + 1) xs)) o' ≡ pours (cat f (drop k xs)) o
  unfolding cat
  cat_turn d o h e =
      rw (add-one, drop-cons xs k d h)
      (ap (pours (cat f (drop (suc k) xs))) e ∙ pours_append (f (get_or xs k d)) (cat f (drop (suc k) xs)) o)

  pub cat_end : (o : Shown) → length xs ≤ k → o ≡ pours (cat f (drop k xs)) o
  unfolding cat
  cat_end o h = rw (drop_of_length-le xs h) (sym (pours_none o))
