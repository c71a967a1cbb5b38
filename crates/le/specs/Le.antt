-- Little-endian fields, and a part laid into a list.
use Rattle.std.specs.Prelude.{ℕ, zero, suc, ◌+◌, ◌*◌, ◌/◌, ◌%◌, ◌<◌, ◌≡◌, refl, List, [], ◌∷◌, ◌++◌, length, get_or, take, drop}

-- The low w bytes of x, lowest first.
abbrev pub le : ℕ → ℕ → List ℕ
le zero x = []
le (suc w) x = (x % 256) ∷ le w (x / 256)

-- The number whose bytes are s, lowest first.
abbrev pub unle : List ℕ → ℕ
unle [] = 0
unle (b ∷ s) = unle s * 256 + b

-- The number in the w bytes of d from `at` on.
abbrev pub field : List ℕ → ℕ → ℕ → ℕ
field d at w = unle (take w (drop at d))

-- d with ys laid over it from `at` on.
unfoldable pub laid : List ℕ → ℕ → List ℕ → List ℕ
laid d at ys = take at d ++ (ys ++ drop (at + length ys) d)

-- Every element is a byte.
abbrev pub Bytes : List ℕ → Type 0
Bytes s = (i : ℕ) → get_or s i 0 < 256

-- 01's magic, 0x4F474552, reads REGO in its block.
magic_bytes : le 4 0x4F474552 ≡ 0x52 ∷ 0x45 ∷ 0x47 ∷ 0x4F ∷ []
magic_bytes = refl

magic_back : field (0 ∷ 0x52 ∷ 0x45 ∷ 0x47 ∷ 0x4F ∷ 0 ∷ []) 1 4 ≡ 0x4F474552
magic_back = refl
