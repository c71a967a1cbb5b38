-- What passes between the parts of the test: the sizes in words, keys worked out once, and what is known of a directory that passed.
use Rattle.std.specs.Prelude.{ℕ, ◌+◌, ◌*◌, ◌≤◌, ◌<◌, ◌≡◌, ◌⊎◌, List, Bool, true, false, length, get_or}
use Rattle.limits.specs.Limits.{max_path, row_width, dir_width, last_counter}
use Rattle.lists.specs.Runs.{all_of, any_of}
use Rattle.lists.specs.Same.{same_bytes}
use Rattle.path.specs.Path.{normal}
use Rattle.dir_rows.specs.Rows.{dir_at, dirs_of}
use Rattle.pool_state.specs.declared.Pool.{Pool}
use Rattle.pool_test.specs.Test.{up_held, dir_ok}

-- What `sizes_ok` says.
pub record Sized (q : Pool) (l n d : ℕ) : Type 0 where
  pub rows : q.chosen.rows ≤ 64
  pub dir_rows_lem : q.chosen.dir_rows ≤ 256
  pub held : q.held ≤ q.chosen.rows
  pub dirs : q.dirs ≤ q.chosen.dir_rows
  pub free : q.free ≤ 64
  pub begun : 1 ≤ q.counter
  pub counted : q.counter ≤ last_counter
  pub nums_long : l ≡ q.chosen.rows * row_width
  pub names_long : n ≡ q.chosen.rows * max_path
  pub dirs_long : d ≡ q.chosen.dir_rows * dir_width
  pub queue_long : length q.queue ≡ 64

-- ---- keys

-- The first n of ks are the keys, by h, of f 0, f 1, ..
pub record Keys (h : List ℕ → ℕ) (f : ℕ → List ℕ) (n : ℕ) (ks : List ℕ) : Type 0 where
  pub room : n ≤ length ks
  pub key : (j : ℕ) → j < n → get_or ks j 0 ≡ h (f j)

-- ---- directories by bytes

-- Directory j is p, byte for byte; one of the first m directories is.
unfoldable pub is_dir : List ℕ → List ℕ → ℕ → Bool
is_dir b p j = same_bytes (dir_at b j) p

abbrev pub has_dir : List ℕ → ℕ → List ℕ → Bool
has_dir b m p = any_of (is_dir b p) 0 m

-- From k on x has to be looked at, if its front that ends at e is known to be normal: all of it, or what stands from a slash at e on.
abbrev pub Tail : List ℕ → ℕ → ℕ → Type 0
Tail x e k = (k ≡ 0) ⊎ ((k ≡ e) × (2 ≤ e) × (e + 2 ≤ length x) × (get_or x e 0 ≡ 47))

-- Directory j is normal, or it is if a shorter directory is; and its nearest ancestor, if it has one, is a directory.
pub record Upright (b : List ℕ) (m j : ℕ) : Type 0 where
  pub tidy : (normal (dir_at b j) ≡ dir_at b j)
      ⊎ ((i : ℕ) × (i < m) × (length (dir_at b i) < length (dir_at b j)) × (normal (dir_at b i) ≡ dir_at b i → normal (dir_at b j) ≡ dir_at b j))
  pub held : up_held (dirs_of b m) (dir_at b j) ≡ true

-- And none before it is the same bytes.
pub record Fine (b : List ℕ) (m j : ℕ) : Type 0 where
  pub upright : Upright b m j
  pub first : (i : ℕ) → i < j → dir_at b i ≡ dir_at b j → ⊥

-- A test of one directory: what is known if it passes; and if it doesn't, the directories are not those of a pool.
abbrev pub Judged : Type 0 → List ℕ → ℕ → Bool → Type 0
Judged P b m true = P
Judged P b m false = all_of (dir_ok b m) 0 m ≡ false
