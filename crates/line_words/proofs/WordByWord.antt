-- The words of a line, found one by one from its start.
use Prim.Native.Nat.{ℕ, suc, ◌≤◌, ◌<◌}
use native.Mathlib.Omega.{arith}
use mathlib.Core.Path.{◌≡◌, refl}
use mathlib.Core.Bool.{Bool, true, false, cond}
use mathlib.Core.List.{List, [], ◌∷◌}
use lib.Dec.{eqb}
use lib.ListN.{length, take, drop}
use Rattle.path.specs.Path.{cut, grow}
use Rattle.line_words.specs.Words.{words_of, run_len}

pub run_fits : (stop : ℕ) (s : List ℕ) → run_len stop s ≤ length s
unfolding run_len
run_fits stop [] = omega arith
run_fits stop (b ∷ s) = go (eqb b stop) (run_fits stop s)
  where
    go : (t : Bool) → run_len stop s ≤ length s → cond t 0 (suc (run_len stop s)) ≤ suc (length s)
    go true h = omega arith
    go false h = omega arith

-- The first word goes to the end: there is no other.
pub words_last : (s : List ℕ) → run_len 32 s ≡ length s → words_of s ≡ s ∷ []
unfolding run_len words_of cut grow
words_last [] e = refl
words_last (b ∷ s) e = go (eqb b 32) e (words_last s)
  where
    go : (t : Bool) → cond t 0 (suc (run_len 32 s)) ≡ suc (length s) → (run_len 32 s ≡ length s → words_of s ≡ s ∷ []) → cut t b (words_of s) ≡ (b ∷ s) ∷ []
    go true h ih = absurd (omega arith)
    go false h ih = rw (ih (omega arith))

-- It ends before: the others stand behind the space.
pub words_more : (s : List ℕ) → run_len 32 s < length s → words_of s ≡ take (run_len 32 s) s ∷ words_of (drop (suc (run_len 32 s)) s)
unfolding run_len words_of cut grow
words_more [] h = absurd (omega arith)
words_more (b ∷ s) h = go (eqb b 32) h (words_more s)
  where
    go : (t : Bool) → cond t 0 (suc (run_len 32 s)) < suc (length s) → (run_len 32 s < length s → words_of s ≡ take (run_len 32 s) s ∷ words_of (drop (suc (run_len 32 s)) s))
        → cut t b (words_of s) ≡ take (cond t 0 (suc (run_len 32 s))) (b ∷ s) ∷ words_of (drop (suc (cond t 0 (suc (run_len 32 s)))) (b ∷ s))
    go true h ih = refl
    go false h ih = rw (ih (omega arith))
