-- Paths in the order of listings and dumps: 01, "each in byte order of normal spelling". What is ordered are parts of a buffer, each as one
-- number, so that a list of them is a slice of numbers.
use Rattle.std.specs.Prelude.{ℕ, ◌+◌, ◌*◌, ◌/◌, ◌%◌, ◌≤◌, Bool, List, [], map, length, get_or, take, drop}
use Rattle.limits.specs.Limits.{max_path, dir_width}
use Rattle.lists.specs.Runs.{range}
use Rattle.lists.specs.Sort.{All, keep, sort, by}
use Rattle.path.specs.Path.{path_order}
use Rattle.slot_rows.specs.Rows.{Row, at, is_bound, path_of}

-- Path a comes before path b.
unfoldable pub path_before : List ℕ → List ℕ → Bool
path_before = by path_order (λ (p : List ℕ). p)

-- Paths, in order.
unfoldable pub in_order : List (List ℕ) → List (List ℕ)
in_order ps = sort path_before ps

-- ---- parts of a buffer

-- The part that starts at a place and has a length below 512.
abbrev pub span : ℕ → ℕ → ℕ
span start len = start * 512 + len

-- What the part x of b spells.
unfoldable pub spelled : List ℕ → ℕ → List ℕ
spelled b x = take (x % 512) (drop (x / 512) b)

-- The part lies in b.
abbrev pub SpanInside : List ℕ → ℕ → Type 0
SpanInside b x = x / 512 + x % 512 ≤ length b

-- So does each of them.
unfoldable pub AllInside : List ℕ → List ℕ → Type 0
AllInside b xs = All (SpanInside b) xs

-- The path of the part x comes before that of y.
unfoldable pub span_before : List ℕ → ℕ → ℕ → Bool
span_before b = by path_order (spelled b)

-- ---- the parts of rows

-- The path of slot row i, in the names.
unfoldable pub file_span : List Row → ℕ → ℕ
file_span rs i = span (i * max_path) (length (path_of (at rs i)))

-- The spelling of directory row j, in the directory rows.
unfoldable pub dir_span : List (List ℕ) → ℕ → ℕ
dir_span ds j = span (j * dir_width + 2) (length (get_or ds j []))

-- The slot whose path the part x of the names is.
abbrev pub slot_of : ℕ → ℕ
slot_of x = x / 512 / max_path

-- All files, by slot.
unfoldable pub file_spans : List Row → List ℕ
file_spans rs = map (file_span rs) (keep (λ (i : ℕ). is_bound (at rs i)) (range 0 (length rs)))

-- All directories, by row.
unfoldable pub dir_spans : List (List ℕ) → List ℕ
dir_spans ds = map (dir_span ds) (range 0 (length ds))

-- ---- rows in order

-- The path of slot row i comes before that of slot row j.
unfoldable pub file_before : List Row → ℕ → ℕ → Bool
file_before rs = by path_order (λ (i : ℕ). path_of (at rs i))

-- The directory of row i comes before that of row j.
unfoldable pub dir_before : List (List ℕ) → ℕ → ℕ → Bool
dir_before ds = by path_order (λ (j : ℕ). get_or ds j [])
