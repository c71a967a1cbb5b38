-- The ways out of the writers of answers, over plain values.
use Prim.Native.Nat.{ℕ, ◌^◌, ◌<◌}
use mathlib.Core.Path.{◌≡◌, ap, ◌∙◌}
use mathlib.Core.Bool.{true, false}
use mathlib.Core.List.{List, [], ◌∷◌}
use lib.Dec.{eqb}
use lib.ListN.{take}
use borrow.Author.Tests.{eq-eqb, ne_eqb}
use Rattle.output.specs.Writer.{Shown, shown, pours, poured}
use Rattle.output.proofs.InParts.{pours_byte, pours_then}
use Rattle.io.specs.Digits.{last_digits, IsDigitCount}
use Rattle.line_answers.specs.Decimal.{decimal_of}
use Rattle.line_answers.specs.Answers.{spaced, ok_text, no_text, made_text, end_text, open_text}
use Rattle.line_answers.proofs.Digits.{fewest_decimal, whole}

pub number_put : (n k : ℕ) (text : List ℕ) (o : Shown) {o₁ o₂ : Shown} → n < 2 ^ 64 → IsDigitCount 10 1 n k → take k text ≡ last_digits 10 k n
    → o₁ ≡ pours (32 ∷ []) o → o₂ ≡ pours (take k text) o₁ → o₂ ≡ pours (spaced n) o
unfolding spaced
number_put n k text o {o₁} h f t e g = g ∙ ap (λ (l : List ℕ). pours l o₁) (t ∙ fewest_decimal k n h f) ∙ pours_byte 32 (decimal_of n) o e

pub no_said : (n : ℕ) (out : List ℕ) {o₁ o₂ o₃ : Shown} → o₁ ≡ pours (110 ∷ 111 ∷ []) (shown out 0) → o₂ ≡ pours (spaced n) o₁ → o₃ ≡ pours (10 ∷ []) o₂
    → o₃ ≡ poured (no_text n) out
unfolding no_text
no_said n out e f g = whole _ out (pours_then _ _ _ e (pours_then _ _ _ f g))

pub made_said : (i g n : ℕ) (out : List ℕ) {o₁ o₂ o₃ o₄ o₅ : Shown} → o₁ ≡ pours (111 ∷ 107 ∷ []) (shown out 0) → o₂ ≡ pours (spaced i) o₁
    → o₃ ≡ pours (spaced g) o₂ → o₄ ≡ pours (spaced n) o₃ → o₅ ≡ pours (10 ∷ []) o₄ → o₅ ≡ poured (made_text i g n) out
unfolding made_text
made_said i g n out e f p q r = whole _ out (pours_then _ _ _ e (pours_then _ _ _ f (pours_then _ _ _ p (pours_then _ _ _ q r))))

pub end_no : (n : ℕ) (out : List ℕ) {o : Shown} → (n ≡ 0 → ⊥) → o ≡ poured (no_text n) out → o ≡ poured (end_text n) out
unfolding end_text
end_no n out h e = let z : eqb n 0 ≡ false = ne_eqb n 0 h in rw z e

pub end_ok : (n : ℕ) (out : List ℕ) {o : Shown} → n ≡ 0 → o ≡ pours ok_text (shown out 0) → o ≡ poured (end_text n) out
unfolding end_text
end_ok n out h e = let z : eqb n 0 ≡ true = eq-eqb n 0 h in rw z (whole _ out e)

module _ (n i g l : ℕ) (out : List ℕ) {o : Shown} where
  pub open_no : (n ≡ 0 → ⊥) → o ≡ poured (no_text n) out → o ≡ poured (open_text n i g l) out
  unfolding open_text
  open_no h e = let z : eqb n 0 ≡ false = ne_eqb n 0 h in rw z e

  pub open_ok : n ≡ 0 → o ≡ poured (made_text i g l) out → o ≡ poured (open_text n i g l) out
  unfolding open_text
  open_ok h e = let z : eqb n 0 ≡ true = eq-eqb n 0 h in rw z e
