-- The words of a line: 01, "The command program". 32 is a space.
use Rattle.std.specs.Prelude.{ℕ, suc, cond, List, [], ◌∷◌, eqb}
use Rattle.path.specs.Path.{cut}

-- "one space between words": the words are what stands between the spaces, empty ones too, so that two spaces in a row have an empty word
-- between them.
unfoldable pub words_of : List ℕ → List (List ℕ)
words_of [] = [] ∷ []
words_of (b ∷ s) = cut (eqb b 32) b (words_of s)

-- How many bytes stand before the first `stop`.
unfoldable pub run_len : ℕ → List ℕ → ℕ
run_len stop [] = 0
run_len stop (b ∷ s) = cond (eqb b stop) 0 (suc (run_len stop s))
