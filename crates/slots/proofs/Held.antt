-- What is held of a line once a part was put behind it.
use Prim.Native.Nat.{ℕ, ◌+◌, ◌-◌, ◌≤◌, min}
use native.Mathlib.Omega.{arith}
use mathlib.Core.Path.{◌≡◌, refl, sym, ap, ◌∙◌}
use mathlib.Core.Bool.{Bool, true, false}
use mathlib.Core.List.{List, ◌++◌, append_assoc}
use lib.Dec.{leb}
use lib.ListN.{length, take, drop, length-append}
use lib.Seq.{take_all, take_at, take-append-add, length-take-le}
use borrow.Author.Tests.{leb-true, leb-false}
use Rattle.le.specs.Le.{laid}
use Rattle.le.proofs.Parts.{mid_back, length_laid}
use Rattle.slots.specs.Slots.{extended}

-- as much of a part as there is room for
cut : (part : List ℕ) (room n : ℕ) → n ≡ min room (length part) → take room part ≡ take n part
cut part room n e = go (leb (length part) room) refl
  where
    go : (t : Bool) → leb (length part) room ≡ t → take room part ≡ take n part
    go true f =
        let l = leb-true (length part) room f in
        take_all room part l ∙ sym (take_all n part (omega arith))
    go false f =
        let l = leb-false (length part) room f in
        let z : room ≡ n = omega arith in
        ap (λ (k : ℕ). take k part) z

module _ (d part : List ℕ) (held n : ℕ) {ys : List ℕ} (h : held ≤ length d) (e : n ≡ min (length d - held) (length part))
    (f : ys ≡ take n part) where
  abbrev after : List ℕ
  after = take held d ++ (ys ++ drop (held + n - held) (drop held d))

  few : length (take n part) ≡ n
  few = length-take-le n part (omega arith)

  after_laid : after ≡ laid d held (take n part)
  after_laid = rw f (mid_back held n d (take n part) few)

  pub appended_fits : held + n ≤ length after
  appended_fits = rw (after_laid, length_laid d held (take n part) (omega (arith, few))) (omega arith)

  pub appended : take (held + n) after ≡ extended d held part
  unfolding laid
  appended =
      let k : length (take held d) ≡ held = length-take-le held d h in
      let m : length (take held d ++ take n part) ≡ held + n = omega (arith, length-append (take held d) (take n part), k, few) in
      let z : length (take held d) + (length d - held) ≡ length d = omega (arith, k) in
      ap (take (held + n)) (after_laid ∙ sym (append_assoc (take held d) (take n part) _))
      ∙ take_at (take held d ++ take n part) _ (held + n) m
      ∙ ap (λ (x : List ℕ). take held d ++ x) (sym (cut part (length d - held) n e))
      ∙ sym (take-append-add (take held d) part (length d - held))
      ∙ ap (λ (j : ℕ). take j (take held d ++ part)) z
