-- The directories of a pool: 01, "A pool". A list of paths, each in normal spelling; what it means that a path is one of them, and
-- what registering makes of the list.
use Rattle.std.specs.Prelude.{ℕ, ◌≡◌, List, [], ◌∷◌, ◌++◌, Bool, true, false, cond}
use Rattle.lists.specs.Distinct.{In, Distinct}
use Rattle.path.specs.Path.{same_path, normal, ancestors}

-- Each in normal spelling.
abbrev pub Normals : List (List ℕ) → Type 0
Normals ds = (d : List ℕ) → In d ds → normal d ≡ d

-- Directories are normal, distinct, and hold every non-empty ancestor of each.
pub record Dirs (ds : List (List ℕ)) : Type 0 where
  pub normals : Normals ds
  pub once : Distinct ds
  pub closed : (d a : List ℕ) → In d ds → In a (ancestors d) → In a ds

-- Whether p is one of ds: paths are compared by components.
unfoldable pub has_path : List (List ℕ) → List ℕ → Bool
has_path [] p = false
has_path (d ∷ ds) p = cond (same_path d p) true (has_path ds p)

-- Those of xs that are none of ds.
unfoldable pub absent : List (List ℕ) → List (List ℕ) → List (List ℕ)
absent ds [] = []
absent ds (x ∷ xs) = cond (has_path ds x) (absent ds xs) (x ∷ absent ds xs)

-- ds, and behind them those of xs that are missing.
unfoldable pub joined : List (List ℕ) → List (List ℕ) → List (List ℕ)
joined ds xs = ds ++ absent ds xs

-- Open, rename, mount and adopt register the non-empty ancestors of a path, nearest first.
abbrev pub registered : List (List ℕ) → List ℕ → List (List ℕ)
registered ds p = joined ds (ancestors p)

-- create_dir_all registers the path itself, too, and it comes first.
abbrev pub registered_with : List (List ℕ) → List ℕ → List (List ℕ)
registered_with ds p = joined ds (normal p ∷ ancestors p)

-- ---- the same, by other ways

-- One after the other, each looked for among all that are there by then.
unfoldable pub joined_each : List (List ℕ) → List (List ℕ) → List (List ℕ)
joined_each ds [] = ds
joined_each ds (x ∷ xs) = joined_each (cond (has_path ds x) ds (ds ++ (x ∷ []))) xs

-- The loop of the Rust's `register_ancestors`: one after the other, and no further than the first that is there.
unfoldable pub joined_until : List (List ℕ) → List (List ℕ) → List (List ℕ)
joined_until ds [] = ds
joined_until ds (x ∷ xs) = cond (has_path ds x) ds (joined_until (ds ++ (x ∷ [])) xs)
