-- Output that goes to a lent buffer as far as that reaches.
use Rattle.std.specs.Prelude.{ℕ, ◌+◌, ◌≡◌, List, ◌++◌, length, take, drop}
use Rattle.std.proofs.lemmas.List.Edits.{sets}
use Rattle.le.specs.Le.{le}

-- The buffer, and how much was put out so far.
pub record Shown : Type 0 where
  pub out : List ℕ
  pub at : ℕ

abbrev pub shown : List ℕ → ℕ → Shown
shown o n = record { out = o; at = n }

-- xs come next. A store past the buffer's end changes nothing.
unfoldable pub pours : List ℕ → Shown → Shown
pours xs o = shown (sets o.out o.at xs) (o.at + length xs)

-- "the output's whole length L and .. the first min(L, out.len()) bytes; bytes past that stay"
unfoldable pub poured : List ℕ → List ℕ → Shown
poured xs out = shown (take (length out) xs ++ drop (length xs) out) (length xs)

-- "A run is a u16 length and that many bytes."
unfoldable pub run_of : List ℕ → List ℕ
run_of p = le 2 (length p) ++ p

-- ---- what a writer promises of the buffer that it is lent

-- A buffer at a writer's entry, or at its exit.
abbrev Out : Type 0
Out = List ℕ

-- xs come next: `at` was put out before them, and n with them.
abbrev pub Puts : List ℕ → Out → Out → ℕ → ℕ → Type 0
Puts xs before after at n = shown after n ≡ pours xs (shown before at)

-- xs are the whole output, of n bytes.
abbrev pub PutsAll : List ℕ → Out → Out → ℕ → Type 0
PutsAll xs before after n = shown after n ≡ poured xs before
