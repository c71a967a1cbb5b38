-- Directories in small: 46 is `.`, 47 is `/`, 97 is `a`, 98 is `b`, 99 is `c`.
use Rattle.std.specs.Prelude.{◌≡◌, refl, true, false, [], ◌∷◌, replicate}
use Rattle.lists.specs.Runs.{range}
use Rattle.lists.specs.Same.{same}
use Rattle.path.specs.Path.{grow, cut, split, idle, names, opening, components, same_path, init, is_root, has_parent, is_parent, slash, join, normal, fronts, ancestors}
use Rattle.device.specs.Device.{dev, turn, onward, write_m, header_write_m}
use Rattle.slot_rows.specs.Rows.{file, bound, is_dirty, path_of, len_of, holds, find}
use Rattle.dir_rows.specs.Dirs.{has_path, absent, joined}
use Rattle.pool_state.specs.State.{State, choosing}
use Rattle.pool_state.specs.Changes.{with_dirs}
use Rattle.pool_steps.specs.World.{World, world}
use Rattle.pool_steps.specs.Steps.{put_m, sync_row_m}
use Rattle.inner_dirs.specs.Folders.{create_dir_all_m, exists_m, metadata_m, is_due, sync_one_m, sync_each_m, sync_dir_m}

-- A file `a` of 7 bytes and a dirty file `b`, directories `a` and `c`, and one directory row left.
small : State
small =
    record {
      chosen = choosing 2 3;
      rows = bound (97 ∷ []) (file 1 7 false) ∷ bound (98 ∷ []) (file 2 0 true) ∷ [];
      dirs = (97 ∷ []) ∷ (99 ∷ []) ∷ [];
      queue = [];
      counter = 3;
    }

-- ---- create_dir_all

-- of `a/b/` makes `a/b`, as `a` is there
only_missing : (create_dir_all_m (97 ∷ 47 ∷ 98 ∷ 47 ∷ []) small).left.dirs ≡ (97 ∷ []) ∷ (99 ∷ []) ∷ (97 ∷ 47 ∷ 98 ∷ []) ∷ []
unfolding small create_dir_all_m with_dirs joined absent has_path same_path same normal ancestors fronts join slash is_root components opening names idle split cut grow
only_missing = refl

-- of `b/c` needs two rows
no_row : (create_dir_all_m (98 ∷ 47 ∷ 99 ∷ []) small).out ≡ 8
unfolding small create_dir_all_m joined absent has_path same_path same normal ancestors fronts join slash is_root components opening names idle split cut grow
no_row = refl

-- of the empty path makes an empty directory
empty_made : (create_dir_all_m [] small).left.dirs ≡ (97 ∷ []) ∷ (99 ∷ []) ∷ [] ∷ []
unfolding small create_dir_all_m with_dirs joined absent has_path same_path same normal ancestors fronts join components opening names idle split cut grow
empty_made = refl

-- 480 bytes are held, 481 are not, and a spelling of 481 bytes is, where it is normal `a`
longest : (create_dir_all_m (replicate 480 97) small).out ≡ 0
unfolding small create_dir_all_m joined absent has_path same_path same normal ancestors fronts join slash is_root components opening names idle split cut grow
longest = refl

too_long_lem : (create_dir_all_m (replicate 481 97) small).out ≡ 4
unfolding create_dir_all_m normal join slash is_root components opening names idle split cut grow
too_long_lem = refl

long_spelling : (create_dir_all_m (97 ∷ replicate 480 47) small).out ≡ 0
unfolding small create_dir_all_m joined absent has_path same_path same normal ancestors fronts join slash is_root components opening names idle split cut grow
long_spelling = refl

-- ---- exists, metadata

-- the file `a` comes before the directory
file_first : metadata_m (97 ∷ []) small ≡ record { out = 0; len = 7; is_dir = false }
unfolding small metadata_m exists_m find holds len_of has_path same_path same components opening names idle split cut grow
file_first = refl

directory : metadata_m (99 ∷ 47 ∷ []) small ≡ record { out = 0; len = 0; is_dir = true }
unfolding small metadata_m exists_m find holds has_path same_path same components opening names idle split cut grow
directory = refl

-- `./a` is another path than `a`
not_found : metadata_m (46 ∷ 47 ∷ 97 ∷ []) small ≡ record { out = 5; len = 0; is_dir = false }
unfolding small metadata_m exists_m find holds has_path same_path same components opening names idle split cut grow
not_found = refl

-- ---- sync_dir

-- of the empty path: `a`, `.` and `..`
name_due : is_due [] (bound (97 ∷ []) (file 1 0 true)) ≡ true
unfolding is_due is_dirty path_of is_parent has_parent init is_root same components opening names idle split cut grow
name_due = refl

dot_due : is_due [] (bound (46 ∷ []) (file 1 0 true)) ≡ true
unfolding is_due is_dirty path_of is_parent has_parent init is_root same components opening names idle split cut grow
dot_due = refl

dots_due : is_due [] (bound (46 ∷ 46 ∷ []) (file 1 0 true)) ≡ true
unfolding is_due is_dirty path_of is_parent has_parent init is_root same components opening names idle split cut grow
dots_due = refl

-- the empty path and the root have no parent
empty_not : is_due [] (bound [] (file 1 0 true)) ≡ false
unfolding is_due is_dirty path_of is_parent has_parent components
empty_not = refl

root_not : is_due (47 ∷ []) (bound (47 ∷ []) (file 1 0 true)) ≡ false
unfolding is_due is_dirty path_of is_parent has_parent is_root components names idle split cut grow
root_not = refl

-- `a/b/c` is no child of `a`, and a clean file needs no sync
deeper_not : is_due (97 ∷ []) (bound (97 ∷ 47 ∷ 98 ∷ 47 ∷ 99 ∷ []) (file 1 0 true)) ≡ false
unfolding is_due is_dirty path_of is_parent has_parent init same components opening names idle split cut grow
deeper_not = refl

clean_not : is_due [] (bound (97 ∷ []) (file 1 0 false)) ≡ false
unfolding is_due is_dirty
clean_not = refl

-- Two dirty files of one directory, and a plan that fails the first call: the second is not begun.
two : World
two =
    world (dev [] [] (record { at = 0; last = 0 }))
    (record {
      chosen = choosing 2 0;
      rows = bound (97 ∷ []) (file 1 0 true) ∷ bound (98 ∷ []) (file 2 0 true) ∷ [];
      dirs = [];
      queue = [];
      counter = 3;
    })

stopped : (sync_dir_m (1 ∷ []) (record { size = 512 }) [] two).out ≡ 10
unfolding two sync_dir_m sync_each_m sync_one_m sync_row_m put_m header_write_m write_m turn onward range is_due is_dirty path_of is_parent has_parent init is_root same components opening names idle split cut grow
stopped = refl

stopped_rows : (sync_dir_m (1 ∷ []) (record { size = 512 }) [] two).left.state.rows ≡ two.state.rows
unfolding two sync_dir_m sync_each_m sync_one_m sync_row_m put_m header_write_m write_m turn onward range is_due is_dirty path_of is_parent has_parent init is_root same components opening names idle split cut grow
stopped_rows = refl

-- one device call was made
stopped_place : (sync_dir_m (1 ∷ []) (record { size = 512 }) [] two).left.dev.place ≡ record { at = 1; last = 10 }
unfolding two sync_dir_m sync_each_m sync_one_m sync_row_m put_m header_write_m write_m turn onward range is_due is_dirty path_of is_parent has_parent init is_root same components opening names idle split cut grow
stopped_place = refl
