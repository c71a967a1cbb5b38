-- read_dir (01, "The calls" and "Numbers that come back").
use Rattle.std.specs.Prelude.{ℕ, Bool, false, cond, List, ◌∷◌, ◌++◌, map, leb, length, drop}
use Rattle.lists.specs.Blocks.{cat}
use Rattle.lists.specs.Sort.{keep}
use Rattle.le.specs.Le.{le}
use Rattle.path.specs.Path.{is_parent}
use Rattle.slot_rows.specs.Rows.{Row, is_bound, path_of}
use Rattle.dir_rows.specs.Dirs.{has_path}
use Rattle.pool_state.specs.State.{State}
use Rattle.row_order.specs.Spans.{in_order}

-- ---- what is listed

-- The row is bound to a path whose parent is dir.
unfoldable pub is_child : List ℕ → Row → Bool
is_child dir r = cond (is_bound r) (is_parent dir (path_of r)) false

-- The files: bound paths whose parent is dir, as given.
unfoldable pub files_in : List ℕ → State → List (List ℕ)
files_in dir s = map path_of (keep (is_child dir) s.rows)

-- The directories whose parent is dir. `/` and the empty path have no parent, so they are in no listing.
unfoldable pub dirs_in : List ℕ → State → List (List ℕ)
dirs_in dir s = keep (is_parent dir) s.dirs

-- ---- what is written

-- "kind byte 0 or 1, length as two bytes little-endian, spelling"
unfoldable pub entry : ℕ → List ℕ → List ℕ
entry kind p = kind ∷ (le 2 (length p) ++ p)

-- "files, then directories, each in byte order of normal spelling"
unfoldable pub listing_of : List ℕ → State → List ℕ
listing_of dir s = cat (entry 0) (in_order (files_in dir s)) ++ cat (entry 1) (in_order (dirs_in dir s))

-- ---- the call

-- What it comes to: its number, how many bytes were written, and the buffer after it.
pub record Listing : Type 0 where
  pub out : ℕ
  pub size : ℕ
  pub buf : List ℕ

abbrev pub listing : ℕ → ℕ → List ℕ → Listing
listing o n b = record { out = o; size = n; buf = b }

-- The bytes l stand at the front of the buffer, and those past them stay; "13: listing buffer too small", and all of it stays.
unfoldable pub fitted : List ℕ → List ℕ → Listing
fitted l buf = cond (leb (length l) (length buf)) (listing 0 (length l) (l ++ drop (length l) buf)) (listing 13 0 buf)

-- "read_dir: 5, 13"; 5 unless the path is a directory.
unfoldable pub read_dir_m : List ℕ → List ℕ → State → Listing
read_dir_m dir buf s = cond (has_path s.dirs dir) (fitted (listing_of dir s) buf) (listing 5 0 buf)
