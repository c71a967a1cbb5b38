-- Slot rows (01, A pool): what a row says, the row that holds a path, and how rows lie in the lent buffers.
use Rattle.std.specs.Prelude.{◌≡◌, List, [], ◌∷◌, Bool, true, false, cond, ℕ, zero, suc, ◌*◌, ◌≤◌, eqb, length, get_or, take, drop}
use Rattle.limits.specs.Limits.{max_path, row_width}
use Rattle.lists.specs.Blocks.{pad, cat}
use Rattle.path.specs.Path.{same_path}

-- ---- a row

-- what a bound slot says of its file: generation, length, and whether its header is still to be written (dirty)
pub record File : Type 0 where
  pub gen : ℕ
  pub len : ℕ
  pub dirty : Bool

abbrev pub file : ℕ → ℕ → Bool → File
file g n d = record { gen = g; len = n; dirty = d }

-- a slot is unbound under a generation, or bound to a path, with a file
pub data Row : Type 0 where
  unbound : ℕ → Row
  bound : List ℕ → File → Row

-- a row that there is not: its numbers and bytes are zero
abbrev pub none : Row
none = unbound 0

-- row i
abbrev pub at : List Row → ℕ → Row
at rs i = get_or rs i none

unfoldable pub is_bound : Row → Bool
is_bound (unbound g) = false
is_bound (bound p f) = true

unfoldable pub path_of : Row → List ℕ
path_of (unbound g) = []
path_of (bound p f) = p

unfoldable pub gen_of : Row → ℕ
gen_of (unbound g) = g
gen_of (bound p f) = f.gen

unfoldable pub len_of : Row → ℕ
len_of (unbound g) = 0
len_of (bound p f) = f.len

unfoldable pub is_dirty : Row → Bool
is_dirty (unbound g) = false
is_dirty (bound p f) = f.dirty

-- a file with another length and dirty bit
unfoldable pub refiled : ℕ → Bool → File → File
refiled m e f = file f.gen m e

-- a bound row with another file length and dirty bit; an unbound one stays
unfoldable pub resized : ℕ → Bool → Row → Row
resized m e (unbound g) = unbound g
resized m e (bound p f) = bound p (refiled m e f)

-- the row, clean
unfoldable pub cleaned : Row → Row
cleaned r = resized (len_of r) false r

-- ---- the row of a path

-- the row is bound to a path equal to p
unfoldable pub holds : List ℕ → Row → Bool
holds p (unbound g) = false
holds p (bound q f) = same_path q p

-- the first row that holds p, or the count of the rows
unfoldable pub find : List ℕ → List Row → ℕ
find p [] = 0
find p (r ∷ rs) = cond (holds p r) 0 (suc (find p rs))

-- ---- rows in the lent buffers: 4 numbers and 480 bytes a row

-- a bound row's mark: 2 dirty, 1 clean
unfoldable pub mark_of : Bool → ℕ
mark_of d = cond d 2 1

-- mark (0 unbound), path length, file length, generation
unfoldable pub row_nums : Row → List ℕ
row_nums (unbound g) = 0 ∷ 0 ∷ 0 ∷ g ∷ []
row_nums (bound p f) = mark_of f.dirty ∷ length p ∷ f.len ∷ f.gen ∷ []

-- the path, zero filled
unfoldable pub row_name : Row → List ℕ
row_name r = pad max_path (path_of r)

-- the rows in buffers of cap rows: what lies past them is zero
unfoldable pub flat_nums : ℕ → List Row → List ℕ
flat_nums cap rs = pad (cap * row_width) (cat row_nums rs)

unfoldable pub flat_names : ℕ → List Row → List ℕ
flat_names cap rs = pad (cap * max_path) (cat row_name rs)

-- the row of mark m, path length k, file length n and generation g, whose name starts s
unfoldable pub row_from : ℕ → ℕ → ℕ → ℕ → List ℕ → Row
row_from m k n g s = cond (eqb m 0) (unbound g) (bound (take k s) (file g n (eqb m 2)))

-- the first n rows of the buffers
unfoldable pub rows_of : List ℕ → List ℕ → ℕ → List Row
rows_of nums names zero = []
rows_of nums names (suc n) =
    row_from (get_or nums 0 0) (get_or nums 1 0) (get_or nums 2 0) (get_or nums 3 0) names
    ∷ rows_of (drop row_width nums) (drop max_path names) n

-- no path is longer than its place
abbrev pub Short : List Row → Type 0
Short rs = (i : ℕ) → length (path_of (at rs i)) ≤ max_path

-- the buffers are those of cap rows, and are the flat form of their first n
pub record Flat (cap n : ℕ) (l s : List ℕ) : Type 0 where
  pub few : n ≤ cap
  pub nums : flat_nums cap (rows_of l s n) ≡ l
  pub names : flat_names cap (rows_of l s n) ≡ s
  pub short : Short (rows_of l s n)
