-- A pool (01, "A pool"): what it holds, what is always true of that, and how it lies in the lent buffers.
use Rattle.std.specs.Prelude.{ℕ, ◌≤◌, ◌<◌, ◌≡◌, List, true, false, length, take}
use Rattle.limits.specs.Limits.{max_path, last_counter}
use Rattle.lists.specs.Lends.{Run}
use Rattle.lists.specs.Blocks.{pad}
use Rattle.lists.specs.Distinct.{In, Distinct}
use Rattle.text.specs.Text.{is_text}
use Rattle.path.specs.Path.{components}
use Rattle.slot_rows.specs.Rows.{Row, at, is_bound, path_of, gen_of, rows_of, flat_nums, flat_names}
use Rattle.dir_rows.specs.Dirs.{Dirs}
use Rattle.dir_rows.specs.Rows.{dirs_of, flat_dirs}
use Rattle.pool_state.specs.declared.Chosen.{Chosen}
use Rattle.pool_state.specs.declared.Pool.{Pool}

-- ---- what a pool holds

-- So many slot rows and directory rows, and nothing else chosen: every other choice comes to a caller through this one.
abbrev pub choosing : ℕ → ℕ → Chosen
choosing rows dir_rows = record { rows = rows; dir_rows = dir_rows }

-- What was chosen at mount, slot rows and directory rows, the free queue, and the counter: the next generation.
pub record State : Type 0 where
  pub chosen : Chosen
  pub rows : List Row
  pub dirs : List (List ℕ)
  pub queue : List ℕ
  pub counter : ℕ

-- 01's words, in four parts, each of what it speaks of and no more: what changes one part leaves the others as they are.

-- How many rows there are, and the next generation.
pub record Counts (c : Chosen) (held dirs counter : ℕ) : Type 0 where
  -- "at most 64 slot rows and 256 directory rows, as chosen at mount"
  pub small : c.rows ≤ 64
  pub dirs_small : c.dir_rows ≤ 256
  pub few : held ≤ c.rows
  pub dirs_few : dirs ≤ c.dir_rows
  -- "counter 1 to 2^63"
  pub begun : 1 ≤ counter
  pub counted : counter ≤ last_counter

-- The slot rows. That unbound slots are clean with length 0 is part of what a row is. A row past the last is unbound under generation 0.
pub record Slots (rs : List Row) (counter : ℕ) : Type 0 where
  -- "bound paths are text of at most 480 bytes, no two equal"; the path of an unbound row is empty
  pub text : (i : ℕ) → is_text (path_of (at rs i)) ≡ true
  pub short : (i : ℕ) → length (path_of (at rs i)) ≤ max_path
  pub apart : (i j : ℕ) → is_bound (at rs i) ≡ true → is_bound (at rs j) ≡ true → components (path_of (at rs i)) ≡ components (path_of (at rs j)) → i ≡ j
  -- "generations below the counter"
  pub young : (i : ℕ) → gen_of (at rs i) < counter

-- The free queue, beside the slot rows: "the free queue holds distinct unbound slots".
pub record Waiting (q : List ℕ) (rs : List Row) : Type 0 where
  pub inside : (i : ℕ) → In i q → i < length rs
  pub idle : (i : ℕ) → In i q → is_bound (at rs i) ≡ false
  pub once : Distinct q

-- "directories are normal, distinct, and hold every non-empty ancestor of each"; each fits a row
pub record Directories (ds : List (List ℕ)) : Type 0 where
  pub short : (d : List ℕ) → In d ds → length d ≤ max_path
  pub dirs : Dirs ds

pub record Valid (s : State) : Type 0 where
  pub counts : Counts s.chosen (length s.rows) (length s.dirs) s.counter
  pub slots : Slots s.rows s.counter
  pub waiting : Waiting s.queue s.rows
  pub directories : Directories s.dirs

-- ---- the lent buffers

-- The record and the rows: numbers and names of the slot rows, directory rows.
pub record Bufs : Type 0 where
  pub pool : Pool
  pub nums : List ℕ
  pub names : List ℕ
  pub dirs : List ℕ

abbrev pub bufs : Pool → List ℕ → List ℕ → List ℕ → Bufs
bufs q l n d = record { pool = q; nums = l; names = n; dirs = d }

-- The rows that a function was lent, with the record: as they were, and as they are left.
abbrev pub bufs_before : Run → Run → Run → Pool → Bufs
bufs_before nums names dirs q = bufs q nums names dirs

abbrev pub bufs_after : Run → Run → Run → Pool → Bufs
bufs_after nums names dirs q = bufs q nums names dirs

-- The queue in a record: the first `free` cells.
unfoldable pub queue_of : Pool → List ℕ
queue_of q = take q.free q.queue

-- What the buffers hold.
unfoldable pub view : Bufs → State
view b = record {
  chosen = b.pool.chosen;
  rows = rows_of b.nums b.names b.pool.held;
  dirs = dirs_of b.dirs b.pool.dirs;
  queue = queue_of b.pool;
  counter = b.pool.counter;
}

-- The record of a state: the cells past the queue are zero.
unfoldable pub pool_of : State → Pool
pool_of s = record {
  chosen = s.chosen;
  held = length s.rows;
  dirs = length s.dirs;
  counter = s.counter;
  free = length s.queue;
  queue = pad 64 s.queue;
}

-- The buffers that hold a state: the rows past the counts are zero.
unfoldable pub flat : State → Bufs
flat s =
    let n = s.chosen.rows in
    bufs (pool_of s) (flat_nums n s.rows) (flat_names n s.rows) (flat_dirs s.chosen.dir_rows s.dirs)

-- Buffers are a pool if they hold a valid state, and nothing else.
pub record IsPool (b : Bufs) : Type 0 where
  pub canon : flat (view b) ≡ b
  pub valid : Valid (view b)
