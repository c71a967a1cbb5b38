-- Text (01, Text): UTF-8 by RFC 3629, section 4. First the grammar, row by row, then the test that decides it; that the two
-- agree is `text_sound` and `text_complete` of Grammar.antt.
use Rattle.std.specs.Prelude.{ℕ, ◌-◌, ◌≤◌, List, [], ◌∷◌, ◌++◌, Bool, cond, eqb, ltb, leb}
use Rattle.text.specs.declared.Due.{Due}

-- ---- the grammar

-- %xLO-HI: a byte from lo to hi.
abbrev pub In : ℕ → ℕ → ℕ → Type 0
In lo hi b = (lo ≤ b) × (b ≤ hi)

-- UTF8-tail = %x80-BF
abbrev pub Tail : ℕ → Type 0
Tail = In 0x80 0xBF

-- UTF8-char = UTF8-1 / UTF8-2 / UTF8-3 / UTF8-4
pub data Character : List ℕ → Type 0 where
  -- UTF8-1 = %x00-7F
  utf8_1 : {a : ℕ} → In 0x00 0x7F a → Character (a ∷ [])
  -- UTF8-2 = %xC2-DF UTF8-tail
  utf8_2 : {a b : ℕ} → In 0xC2 0xDF a → Tail b → Character (a ∷ b ∷ [])
  -- UTF8-3 = %xE0 %xA0-BF UTF8-tail / %xE1-EC 2( UTF8-tail ) / %xED %x80-9F UTF8-tail / %xEE-EF 2( UTF8-tail )
  utf8_3a : {b c : ℕ} → In 0xA0 0xBF b → Tail c → Character (0xE0 ∷ b ∷ c ∷ [])
  utf8_3b : {a b c : ℕ} → In 0xE1 0xEC a → Tail b → Tail c → Character (a ∷ b ∷ c ∷ [])
  utf8_3c : {b c : ℕ} → In 0x80 0x9F b → Tail c → Character (0xED ∷ b ∷ c ∷ [])
  utf8_3d : {a b c : ℕ} → In 0xEE 0xEF a → Tail b → Tail c → Character (a ∷ b ∷ c ∷ [])
  -- UTF8-4 = %xF0 %x90-BF 2( UTF8-tail ) / %xF1-F3 3( UTF8-tail ) / %xF4 %x80-8F 2( UTF8-tail )
  utf8_4a : {b c d : ℕ} → In 0x90 0xBF b → Tail c → Tail d → Character (0xF0 ∷ b ∷ c ∷ d ∷ [])
  utf8_4b : {a b c d : ℕ} → In 0xF1 0xF3 a → Tail b → Tail c → Tail d → Character (a ∷ b ∷ c ∷ d ∷ [])
  utf8_4c : {b c d : ℕ} → In 0x80 0x8F b → Tail c → Tail d → Character (0xF4 ∷ b ∷ c ∷ d ∷ [])

-- UTF8-octets = *( UTF8-char )
pub data Text : List ℕ → Type 0 where
  none : Text []
  more : {a s : List ℕ} → Character a → Text s → Text (a ++ s)

-- ---- the test, byte by byte

-- Where a reader stands: n bytes are due, the next of them in lo..hi, those behind it tails.
abbrev pub owed : ℕ → ℕ → ℕ → Due
owed n lo hi = record { left = n; lo = lo; hi = hi }

-- Between two characters nothing is due.
abbrev pub between : Due
between = owed 0 0x80 0xBF

-- Where no text goes on: the byte due is in 1..0, and no byte is.
abbrev pub never : Due
never = owed 1 1 0

-- What is due behind a first byte in E0..EF, by the rows of UTF8-3.
unfoldable pub lead_of3 : ℕ → Due
lead_of3 b = cond (eqb b 0xE0) (owed 2 0xA0 0xBF) (cond (eqb b 0xED) (owed 2 0x80 0x9F) (owed 2 0x80 0xBF))

-- What is due behind a byte from F0 on, by the rows of UTF8-4.
unfoldable pub lead_of4 : ℕ → Due
lead_of4 b =
    cond (eqb b 0xF0) (owed 3 0x90 0xBF)
    (cond (leb b 0xF3) (owed 3 0x80 0xBF)
    (cond (eqb b 0xF4) (owed 3 0x80 0x8F) never))

-- What is due behind the first byte of a character.
unfoldable pub lead_of : ℕ → Due
lead_of b =
    cond (leb b 0x7F) between
    (cond (ltb b 0xC2) never
    (cond (leb b 0xDF) (owed 1 0x80 0xBF)
    (cond (leb b 0xEF) (lead_of3 b) (lead_of4 b))))

-- Where a reader stands behind one more byte.
unfoldable pub step_of : Due → ℕ → Due
step_of d b =
    cond (eqb d.left 0) (lead_of b)
    (cond (ltb b d.lo) never
    (cond (ltb d.hi b) never (owed (d.left - 1) 0x80 0xBF)))

-- Where a reader stands behind all of a run.
unfoldable pub walk_of : Due → List ℕ → Due
walk_of d [] = d
walk_of d (b ∷ s) = walk_of (step_of d b) s

-- A run is text if nothing is due behind it.
unfoldable pub is_text : List ℕ → Bool
is_text s = eqb (walk_of between s).left 0
