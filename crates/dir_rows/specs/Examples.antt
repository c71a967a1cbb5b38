-- Directories in small: 47 is `/`, 97 is `a`, 98 is `b`, 99 is `c`.
use Rattle.std.specs.Prelude.{◌≡◌, refl, [], ◌∷◌, replicate}
use Rattle.lists.specs.Blocks.{pad}
use Rattle.lists.specs.Same.{same}
use Rattle.path.specs.Path.{grow, cut, split, idle, names, opening, components, same_path, is_root, slash, join, normal, fronts, ancestors}
use Rattle.dir_rows.specs.Dirs.{has_path, absent, joined, registered, registered_with}
use Rattle.dir_rows.specs.Rows.{dir_row}

-- a file `a/b/c` brings `a/b` and then `a`
nearest_first : registered [] (97 ∷ 47 ∷ 98 ∷ 47 ∷ 99 ∷ []) ≡ (97 ∷ 47 ∷ 98 ∷ []) ∷ (97 ∷ []) ∷ []
unfolding joined absent has_path ancestors fronts join slash is_root components opening names idle split cut grow
nearest_first = refl

-- where `a` is one, `a//b/c` brings `a/b` alone
only_missing : registered ((97 ∷ []) ∷ []) (97 ∷ 47 ∷ 47 ∷ 98 ∷ 47 ∷ 99 ∷ []) ≡ (97 ∷ []) ∷ (97 ∷ 47 ∷ 98 ∷ []) ∷ []
unfolding joined absent has_path same_path same ancestors fronts join slash is_root components opening names idle split cut grow
only_missing = refl

-- a file `a` brings none: the empty path is no ancestor that counts
none_of_name : registered [] (97 ∷ []) ≡ []
unfolding joined absent ancestors fronts components opening names idle split cut grow
none_of_name = refl

-- create_dir_all of `/a/` makes `/a` and then the root
path_first : registered_with [] (47 ∷ 97 ∷ 47 ∷ []) ≡ (47 ∷ 97 ∷ []) ∷ (47 ∷ []) ∷ []
unfolding joined absent has_path ancestors normal fronts join slash is_root components opening names idle split cut grow
path_first = refl

-- and of the empty path an empty directory
empty_held : registered_with [] [] ≡ [] ∷ []
unfolding joined absent has_path ancestors normal fronts join components
empty_held = refl

-- the row of `a`
row_of_name : dir_row (97 ∷ []) ≡ 1 ∷ 0 ∷ 97 ∷ replicate 479 0
unfolding dir_row pad
row_of_name = refl
