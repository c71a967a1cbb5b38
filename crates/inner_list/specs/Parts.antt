-- The same over parts of the lent rows, as the code has them: which are picked, how many bytes their entries take, and these entries.
use Rattle.std.specs.Prelude.{ℕ, ◌+◌, ◌%◌, List, [], ◌∷◌, map, length, get_or}
use Rattle.lists.specs.Blocks.{cat}
use Rattle.lists.specs.Runs.{range}
use Rattle.lists.specs.Sort.{keep}
use Rattle.path.specs.Path.{is_parent}
use Rattle.slot_rows.specs.Rows.{Row, at}
use Rattle.row_order.specs.Spans.{spelled, file_span, dir_span}
use Rattle.inner_list.specs.Listing.{is_child, entry}

-- The paths of the files in dir, by slot.
unfoldable pub child_files : List ℕ → List Row → List ℕ
child_files dir rs = map (file_span rs) (keep (λ (i : ℕ). is_child dir (at rs i)) (range 0 (length rs)))

-- The directories in dir, by row.
unfoldable pub child_dirs : List ℕ → List (List ℕ) → List ℕ
child_dirs dir ds = map (dir_span ds) (keep (λ (j : ℕ). is_parent dir (get_or ds j [])) (range 0 (length ds)))

-- The entries of parts of b, one behind the other.
unfoldable pub entries : ℕ → List ℕ → List ℕ → List ℕ
entries kind b xs = cat (λ (x : ℕ). entry kind (spelled b x)) xs

-- How many bytes they take.
unfoldable pub size_of : List ℕ → ℕ
size_of [] = 0
size_of (x ∷ xs) = 3 + x % 512 + size_of xs
