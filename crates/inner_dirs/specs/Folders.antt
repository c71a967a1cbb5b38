-- Directories: create_dir_all, exists and metadata "as in the Rust; a file comes before a directory of the same path", and 01's "sync_dir".
use Rattle.std.specs.Prelude.{ℕ, Bool, false, cond, ◌||◌, List, [], ◌∷◌, eqb, ltb, length, Option, None, Some}
use Rattle.limits.specs.Limits.{max_path}
use Rattle.lists.specs.Runs.{range}
use Rattle.path.specs.Path.{is_parent, normal}
use Rattle.device.specs.declared.Geometry.{Geometry}
use Rattle.slot_rows.specs.Rows.{Row, at, path_of, len_of, is_dirty, find}
use Rattle.dir_rows.specs.Dirs.{has_path, registered_with}
use Rattle.pool_state.specs.State.{State, Bufs, flat}
use Rattle.pool_state.specs.Changes.{with_dirs}
use Rattle.pool_steps.specs.World.{World}
use Rattle.pool_steps.specs.Steps.{sync_row_m}
use Rattle.pool_steps.specs.Outcome.{Outcome, outcome, None as Nothing, by_device}
use Rattle.inner_open.specs.Files.{is_file}
use Rattle.inner_dirs.specs.declared.Meta.{Meta}

-- A directory has this path.
abbrev pub is_dir : List ℕ → State → Bool
is_dir path s = has_path s.dirs path

-- A call that takes no device: what it comes to, with the buffers that hold the pool that is left.
unfoldable pub flat_b : {R : Type 0} → Outcome R State → Outcome R Bufs
flat_b o = outcome o.out o.results (flat o.left)

-- ---- create_dir_all

-- "create_dir_all's normal spelling .. above 480": the given spelling may be of any length.
abbrev pub too_long : List ℕ → Bool
too_long path = ltb max_path (length (normal path))

-- "create_dir_all: 4, 8." 8, "more directories to hold than directory rows", counts the path and its ancestors as far as they are missing;
-- else these are registered.
unfoldable pub create_dir_all_m : List ℕ → State → Outcome Nothing State
create_dir_all_m path s =
    cond (too_long path) (outcome 4 tt s)
    (cond (ltb s.chosen.dir_rows (length (registered_with s.dirs path))) (outcome 8 tt s)
    (outcome 0 tt (with_dirs (registered_with s.dirs path) s)))

-- ---- exists, metadata

-- A file or a directory has the path.
unfoldable pub exists_m : List ℕ → State → Bool
exists_m path s = is_file path s || is_dir path s

-- The number of the call, a file's length, and whether the path is a directory's.
pub record MetaTold : Type 0 where
  pub out : ℕ
  pub len : ℕ
  pub is_dir : Bool

-- What was found, or 5 where there is nothing.
abbrev pub meta_told : Option Meta → MetaTold
meta_told None = record { out = 5; len = 0; is_dir = false }
meta_told (Some m) = record { out = 0; len = m.len; is_dir = m.is_dir }

-- 5 is "not found". "a file comes before a directory of the same path"; a directory has length 0.
unfoldable pub metadata_m : List ℕ → State → MetaTold
metadata_m path s = record {
  out = cond (exists_m path s) 0 5;
  len = cond (is_file path s) (len_of (at s.rows (find path s.rows))) 0;
  is_dir = cond (is_file path s) false (is_dir path s);
}

-- ---- "sync_dir"

-- "the dirty files whose parent equals the path": an unbound row is not dirty.
unfoldable pub is_due : List ℕ → Row → Bool
is_due path r = cond (is_dirty r) (is_parent path (path_of r)) false

-- One slot of it: the header of a file that is due is written and flushed, which makes it clean.
unfoldable pub sync_one_m : List ℕ → Geometry → List ℕ → ℕ → World → Outcome Nothing World
sync_one_m plan g path i w = cond (is_due path (at w.state.rows i)) (by_device (sync_row_m plan g i w)) (outcome 0 tt w)

-- ".. stopping at a failure": the next call, if this one came to 0.
abbrev pub go_on : Outcome Nothing World → (World → Outcome Nothing World) → Outcome Nothing World
go_on o next = cond (eqb o.out 0) (next o.left) o

-- These slots, one after the other.
unfoldable pub sync_each_m : List ℕ → Geometry → List ℕ → List ℕ → World → Outcome Nothing World
sync_each_m plan g path [] w = outcome 0 tt w
sync_each_m plan g path (i ∷ is) w = go_on (sync_one_m plan g path i w) (sync_each_m plan g path is)

-- ".. lowest slot first": the directory is not looked for, and need not exist.
unfoldable pub sync_dir_m : List ℕ → Geometry → List ℕ → World → Outcome Nothing World
sync_dir_m plan g path w = sync_each_m plan g path (range 0 (length w.state.rows)) w
