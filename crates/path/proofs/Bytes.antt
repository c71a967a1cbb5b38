-- Equality of bytes: as the library tests it, and eight of them read as a number.
use Rattle.std.proofs.Common.{◌≡◌, ℕ, ◌+◌, ◌≤◌, Bool, true, false, cond, ◌&&◌, eqb, List, [], ◌∷◌, ◌++◌, length, take, drop, sym, refl, ap, ◌∙◌, arith, length-take-le, take-add}
use lib.Pointwise.{pointwise}
use Rattle.le.specs.Le.{le, unle, Bytes}
use Rattle.le.proofs.Fields.{field_back}
use Rattle.lists.specs.Same.{same, same_bytes, same_bytes_refl, same_bytes_other}

-- what both end with does not matter
same_before : (a b w : List ℕ) → length a ≡ length b → same_bytes (a ++ w) (b ++ w) ≡ same_bytes a b
unfolding same
same_before [] [] w l = same_bytes_refl w
same_before [] (y ∷ b) w l = absurd (omega arith)
same_before (x ∷ a) [] w l = absurd (omega arith)
same_before (x ∷ a) (y ∷ b) w l = ap (λ (t : Bool). cond (eqb x y) t false) (same_before a b w (omega arith))

-- the library's test is the same
pub bytes_pointwise : (a b : List ℕ) → pointwise eqb a b ≡ same_bytes a b
unfolding same
bytes_pointwise [] [] = refl
bytes_pointwise [] (y ∷ b) = refl
bytes_pointwise (x ∷ a) [] = refl
bytes_pointwise (x ∷ a) (y ∷ b) = go (eqb x y) (bytes_pointwise a b)
  where
    go : (t : Bool) → pointwise eqb a b ≡ same_bytes a b → (t && pointwise eqb a b) ≡ cond t (same_bytes a b) false
    go true h = h
    go false h = refl

module _ (a b : List ℕ) (i : ℕ) where
  pub words_differ : (unle (take 8 (drop i a)) ≡ unle (take 8 (drop i b)) → ⊥) → false ≡ same_bytes a b
  words_differ d = sym (same_bytes_other a b (λ e. d (ap (λ (l : List ℕ). unle (take 8 (drop i l))) e)))

  -- eight equal bytes behind i, up to j, do not matter
  pub words_next : (j : ℕ) → Bytes a → Bytes b → j ≡ i + 8 → j ≤ length a → length a ≡ length b → unle (take 8 (drop i a)) ≡ unle (take 8 (drop i b))
      → same_bytes a b ≡ same_bytes (take j a) (take j b) → same_bytes a b ≡ same_bytes (take i a) (take i b)
  words_next j ba bb q la lb e s =
      let w : List ℕ = take 8 (drop i a) in
      let t : take 8 (drop i b) ≡ w = sym (field_back b i 8 bb (omega arith)) ∙ (ap (le 8) (sym e) ∙ field_back a i 8 ba (omega arith)) in
      let ha : take j a ≡ take i a ++ w = eight a in
      let hb : take j b ≡ take i b ++ w = eight b ∙ ap (λ (x : List ℕ). take i b ++ x) t in
      let l : length (take i a) ≡ length (take i b) = length-take-le i a (omega arith) ∙ sym (length-take-le i b (omega arith)) in
      s ∙ ap (λ (x : List ℕ). same_bytes x (take j b)) ha ∙ ap (same_bytes (take i a ++ w)) hb ∙ same_before (take i a) (take i b) w l
    where
      eight : (l : List ℕ) → take j l ≡ take i l ++ take 8 (drop i l)
      eight l = ap (λ (x : ℕ). take x l) q ∙ take-add i 8 l
