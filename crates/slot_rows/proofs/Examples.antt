-- Examples of rows and of their flat form (01, A pool): 97 is `a`, 98 is `b`, 46 is `.` and 47 is `/`.
use Rattle.std.specs.Prelude.{◌≡◌, refl, [], ◌∷◌, true, false}
use Rattle.lists.specs.Blocks.{pad, cat}
use Rattle.lists.specs.Same.{same}
use Rattle.path.specs.Path.{same_path, components, split, cut, grow, names, idle, opening}
use Rattle.slot_rows.specs.Rows.{file, unbound, bound, holds, find, mark_of, row_nums, flat_nums, row_from, rows_of}

-- a dirty file `a` of 7 bytes under generation 3, an unbound row under generation 5, and room for one more row
in-numbers : flat_nums 3 (bound (97 ∷ []) (file 3 7 true) ∷ unbound 5 ∷ []) ≡ 2 ∷ 1 ∷ 7 ∷ 3 ∷ 0 ∷ 0 ∷ 0 ∷ 5 ∷ 0 ∷ 0 ∷ 0 ∷ 0 ∷ []
unfolding flat_nums row_nums mark_of pad cat
in-numbers = refl

-- `a//b/` is found in the row of `a/b`; `./a` is not found in that of `a`, so the count comes back
other_spelling : find (97 ∷ 47 ∷ 47 ∷ 98 ∷ 47 ∷ []) (unbound 4 ∷ bound (97 ∷ 47 ∷ 98 ∷ []) (file 3 0 true) ∷ []) ≡ 1
unfolding find holds same_path components split cut grow names idle opening same
other_spelling = refl

other_path : find (46 ∷ 47 ∷ 97 ∷ []) (bound (97 ∷ []) (file 3 0 true) ∷ []) ≡ 1
unfolding find holds same_path components split cut grow names idle opening same
other_path = refl

-- the first of two rows
first_of_two : find (97 ∷ []) (bound (97 ∷ []) (file 1 0 false) ∷ bound (97 ∷ 47 ∷ []) (file 2 0 false) ∷ []) ≡ 0
unfolding find holds same_path components split cut grow names idle opening same
first_of_two = refl

-- the empty path can be held: a path of length 0 does not mean that the row is unused
empty_path : rows_of (1 ∷ 0 ∷ 0 ∷ 6 ∷ []) [] 1 ≡ bound [] (file 6 0 false) ∷ []
unfolding rows_of row_from
empty_path = refl

empty_held : find [] (unbound 6 ∷ bound [] (file 6 0 false) ∷ []) ≡ 1
unfolding find holds same_path components same
empty_held = refl
