-- The answers of the command program, each a line: 01, "The command program". 32 is a space, and 10 ends a line.
use Rattle.std.specs.Prelude.{ℕ, cond, List, [], ◌∷◌, ◌++◌, eqb}
use Rattle.line_answers.specs.Decimal.{decimal_of}

-- A space and a number.
unfoldable pub spaced : ℕ → List ℕ
spaced n = 32 ∷ decimal_of n

-- "`what`"
abbrev pub what_text : List ℕ
what_text = 119 ∷ 104 ∷ 97 ∷ 116 ∷ 10 ∷ []

-- "`no N` for a refusal"
unfoldable pub no_text : ℕ → List ℕ
no_text n = (110 ∷ 111 ∷ []) ++ (spaced n ++ (10 ∷ []))

-- "`ok`"
abbrev pub ok_text : List ℕ
ok_text = 111 ∷ 107 ∷ 10 ∷ []

-- "`ok SLOT GEN LEN`"
unfoldable pub made_text : ℕ → ℕ → ℕ → List ℕ
made_text slot generation len = (111 ∷ 107 ∷ []) ++ (spaced slot ++ (spaced generation ++ (spaced len ++ (10 ∷ []))))

-- By the number of the call, "`ok` for `sync`, `rm` and `mv`",
unfoldable pub end_text : ℕ → List ℕ
end_text number = cond (eqb number 0) ok_text (no_text number)

-- and "`ok SLOT GEN LEN` for create".
unfoldable pub open_text : ℕ → ℕ → ℕ → ℕ → List ℕ
open_text number slot generation len = cond (eqb number 0) (made_text slot generation len) (no_text number)
