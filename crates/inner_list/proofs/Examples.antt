-- Listings in small: 46 is `.`, 47 is `/`, 97 is `a`, 98 is `b`, 99 is `c`, 100 is `d`.
use Rattle.std.specs.Prelude.{◌≡◌, refl, false, [], ◌∷◌}
use Rattle.lists.specs.Blocks.{cat}
use Rattle.lists.specs.Order.{cmp_nat, lex}
use Rattle.lists.specs.Same.{same}
use Rattle.lists.specs.Sort.{keep, insert, sort}
use Rattle.path.specs.Path.{grow, cut, split, idle, names, opening, components, same_path, init, is_root, has_parent, is_parent, slash, join, normal, path_order}
use Rattle.slot_rows.specs.Rows.{file, unbound, bound, is_bound, path_of}
use Rattle.dir_rows.specs.Dirs.{has_path}
use Rattle.pool_state.specs.State.{State, choosing}
use Rattle.row_order.specs.Spans.{path_before, in_order}
use Rattle.inner_list.specs.Listing.{is_child, files_in, dirs_in, entry, listing_of, listing, fitted, read_dir_m}

-- a pool with the files `a/c`, `a//b`, `a.b` and the directories `a`, `a/d`, `/` and the empty path
held : State
held = record {
  chosen = choosing 4 4;
  rows = bound (97 ∷ 47 ∷ 99 ∷ []) (file 1 0 false)
      ∷ bound (97 ∷ 47 ∷ 47 ∷ 98 ∷ []) (file 2 0 false)
      ∷ bound (97 ∷ 46 ∷ 98 ∷ []) (file 3 0 false)
      ∷ unbound 0
      ∷ [];
  dirs = (97 ∷ []) ∷ (97 ∷ 47 ∷ 100 ∷ []) ∷ (47 ∷ []) ∷ [] ∷ [];
  queue = [];
  counter = 4;
}

-- in `a`: `a//b` as it was given, in front of `a/c`; then the directory `a/d`
of_a : listing_of (97 ∷ 47 ∷ []) held ≡ 0 ∷ 4 ∷ 0 ∷ 97 ∷ 47 ∷ 47 ∷ 98 ∷ 0 ∷ 3 ∷ 0 ∷ 97 ∷ 47 ∷ 99 ∷ 1 ∷ 3 ∷ 0 ∷ 97 ∷ 47 ∷ 100 ∷ []
unfolding held listing_of files_in dirs_in is_child is_bound path_of keep cat entry in_order sort insert path_before path_order normal lex cmp_nat is_parent has_parent init same join slash is_root components opening names idle split cut grow
of_a = refl

-- in the empty path: the file `a.b` and the directory `a`, and neither `/` nor the empty path itself
of_empty : listing_of [] held ≡ 0 ∷ 3 ∷ 0 ∷ 97 ∷ 46 ∷ 98 ∷ 1 ∷ 1 ∷ 0 ∷ 97 ∷ []
unfolding held listing_of files_in dirs_in is_child is_bound path_of keep cat entry in_order sort insert path_before path_order normal lex cmp_nat is_parent has_parent init same join slash is_root components opening names idle split cut grow
of_empty = refl

-- bytes past the listing stay
fits : fitted (1 ∷ 2 ∷ []) (7 ∷ 8 ∷ 9 ∷ []) ≡ listing 0 2 (1 ∷ 2 ∷ 9 ∷ [])
unfolding fitted
fits = refl

-- one byte too few, and all stays
too_small : fitted (1 ∷ 2 ∷ []) (7 ∷ []) ≡ listing 13 0 (7 ∷ [])
unfolding fitted
too_small = refl

-- `b` is no directory
not_found : read_dir_m (98 ∷ []) (7 ∷ []) held ≡ listing 5 0 (7 ∷ [])
unfolding read_dir_m held has_path same_path same components opening names idle split cut grow
not_found = refl
