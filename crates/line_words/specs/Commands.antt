-- What a line asks for: 01, "The command program".
use Rattle.std.specs.Prelude.{ℕ, ◌+◌, ◌-◌, ◌≤◌, ◌<◌, ◌≡◌, cond, List, [], ◌∷◌, eqb, ltb, length, take, drop}
use Rattle.lists.specs.Same.{same_bytes}
use Rattle.line_words.specs.Words.{words_of}
use Rattle.line_words.specs.declared.Command.{Command}
use Rattle.line_words.specs.declared.Command.TheVariants.{Create, Sync, Remove, Move, Dump, What}

-- `create P`, `sync P`, `rm P`, `mv A B`, `dump`, and any other line.
pub data Request : Type 0 where
  create : List ℕ → Request
  sync : List ℕ → Request
  remove : List ℕ → Request
  move : List ℕ → List ℕ → Request
  dump : Request
  what : Request

-- The first words of the forms, in bytes: create, sync, rm, mv, dump.
abbrev pub create_word : List ℕ
create_word = 99 ∷ 114 ∷ 101 ∷ 97 ∷ 116 ∷ 101 ∷ []

abbrev pub sync_word : List ℕ
sync_word = 115 ∷ 121 ∷ 110 ∷ 99 ∷ []

abbrev pub rm_word : List ℕ
rm_word = 114 ∷ 109 ∷ []

abbrev pub mv_word : List ℕ
mv_word = 109 ∷ 118 ∷ []

abbrev pub dump_word : List ℕ
dump_word = 100 ∷ 117 ∷ 109 ∷ 112 ∷ []

-- The request, if the word is not empty.
abbrev pub if_filled : List ℕ → Request → Request
if_filled w r = cond (eqb (length w) 0) what r

-- The forms of one word, of two and of three.
unfoldable pub one_word : List ℕ → Request
one_word v = cond (same_bytes v dump_word) dump what

unfoldable pub two_words : List ℕ → List ℕ → Request
two_words v p =
    if_filled p
    (cond (same_bytes v create_word) (create p)
    (cond (same_bytes v sync_word) (sync p)
    (cond (same_bytes v rm_word) (remove p) what)))

unfoldable pub three_words : List ℕ → List ℕ → List ℕ → Request
three_words v a b = if_filled a (if_filled b (cond (same_bytes v mv_word) (move a b) what))

unfoldable pub request_by : List (List ℕ) → Request
request_by [] = what
request_by (v ∷ []) = one_word v
request_by (v ∷ p ∷ []) = two_words v p
request_by (v ∷ a ∷ b ∷ []) = three_words v a b
request_by (v ∷ a ∷ b ∷ c ∷ ws) = what

-- "`what` for a line above 1,024 bytes or not of these forms with non-empty words"
unfoldable pub request_of : List ℕ → Request
request_of line = cond (ltb 1024 (length line)) what (request_by (words_of line))

-- ---- a command, with the places of its paths in the line

-- What a command asks of its line.
unfoldable pub read_as : List ℕ → Command → Request
read_as line (Create i) = create (drop i line)
read_as line (Sync i) = sync (drop i line)
read_as line (Remove i) = remove (drop i line)
read_as line (Move i j) = move (take (j - i) (drop i line)) (drop (j + 1) line)
read_as line Dump = dump
read_as line What = what

-- The places lie in a line of n bytes.
unfoldable pub InLine : ℕ → Command → Type 0
InLine n (Create i) = i ≤ n
InLine n (Sync i) = i ≤ n
InLine n (Remove i) = i ≤ n
InLine n (Move i j) = (i ≤ j) × (j < n)
InLine n Dump = Unit {0}
InLine n What = Unit {0}

-- A command stands for a request of its line.
pub record Means (line : List ℕ) (c : Command) (q : Request) : Type 0 where
  pub same : read_as line c ≡ q
  pub inside : InLine (length line) c
