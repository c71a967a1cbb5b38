-- Directory rows in a lent buffer: 482 bytes each, the length of the spelling in two bytes, little-endian, and the spelling, zero filled to
-- 480 bytes; rows past the count are zero.
use Rattle.std.specs.Prelude.{ℕ, ◌*◌, ◌≤◌, ◌≡◌, List, ◌++◌, length, take, drop}
use Rattle.limits.specs.Limits.{max_path, dir_width}
use Rattle.le.specs.Le.{le, field}
use Rattle.lists.specs.Blocks.{pad, cat}
use Rattle.lists.specs.Distinct.{In}
use Rattle.lists.specs.Runs.{tab}

-- The row of a directory.
unfoldable pub dir_row : List ℕ → List ℕ
dir_row d = le 2 (length d) ++ pad max_path d

-- The buffer of cap rows that holds ds.
unfoldable pub flat_dirs : ℕ → List (List ℕ) → List ℕ
flat_dirs cap ds = pad (cap * dir_width) (cat dir_row ds)

-- What a row spells: as many of the bytes behind the first two as these say, and no more than there are.
unfoldable pub spelt : List ℕ → List ℕ
spelt r = take (field r 0 2) (drop 2 r)

-- What row j of a buffer spells.
unfoldable pub dir_at : List ℕ → ℕ → List ℕ
dir_at b j = spelt (take dir_width (drop (j * dir_width) b))

-- The directories in the first m rows of a buffer.
unfoldable pub dirs_of : List ℕ → ℕ → List (List ℕ)
dirs_of b m = tab (dir_at b) 0 m

-- Each fits its row.
abbrev pub Short : List (List ℕ) → Type 0
Short ds = (d : List ℕ) → In d ds → length d ≤ max_path

-- A buffer of cap rows whose first m hold directories, and in which no other byte has a meaning: it is the flat form of what it holds.
pub record FlatDirs (cap m : ℕ) (b : List ℕ) : Type 0 where
  pub few : m ≤ cap
  pub flat : flat_dirs cap (dirs_of b m) ≡ b
