-- A pool for a reader who thinks in buffers: plain facts of cells and counts that follow from `IsPool`.
use Rattle.std.specs.Prelude.{ℕ, ◌+◌, ◌*◌, ◌≤◌, ◌<◌, ◌≡◌, refl, Bool, true, false}
use Rattle.std.proofs.Common.{sym, ◌∙◌, arith}
use Rattle.std.proofs.Math.Path.{ap}
use mathlib.Core.List.{List}
use Rattle.std.proofs.Math.ListN.{length, get_or, get_or-eq_default}
use Rattle.limits.specs.Limits.{max_path, row_width, dir_width, last_counter}
use Rattle.lists.specs.Blocks.{pad, cat, length_pad, get_or_pad, length_cat, flat_at}
use Rattle.lists.specs.Zeros.{rest_zero}
use Rattle.slot_rows.specs.Rows.{Row, unbound, bound, none, at, path_of, gen_of, mark_of, row_nums, row_name, rows_of, flat_nums, flat_names, Flat}
use Rattle.slot_rows.proofs.InBuffers.{nums_wide, name_wide, length_rows, nums_long, names_long, num_at}
use Rattle.dir_rows.specs.Rows.{dir_row, dirs_of, flat_dirs, FlatDirs}
use Rattle.dir_rows.proofs.InBuffer.{row_wide, length_dirs, dirs_long}
use Rattle.pool_state.specs.declared.Pool.{Pool}
use Rattle.pool_state.specs.State.{Bufs, queue_of, view, pool_of, IsPool}
use Rattle.pool_state.specs.InBuffers.{queue_few, pool_canon, pool_rows, pool_dirs}

-- The mark of row i, and its path's length.
abbrev pub mark_at : Bufs → ℕ → ℕ
mark_at b i = get_or b.nums (i * row_width) 0

abbrev pub path_len_at : Bufs → ℕ → ℕ
path_len_at b i = get_or b.nums (i * row_width + 1) 0

pub record Reads (b : Bufs) : Type 0 where
  -- the counts
  pub rows : b.pool.chosen.rows ≤ 64
  pub dir_rows_lem : b.pool.chosen.dir_rows ≤ 256
  pub held : b.pool.held ≤ b.pool.chosen.rows
  pub dirs : b.pool.dirs ≤ b.pool.chosen.dir_rows
  pub free : b.pool.free ≤ b.pool.held
  pub begun : 1 ≤ b.pool.counter
  pub counted : b.pool.counter ≤ last_counter
  -- the lengths of the buffers
  pub nums_long : length b.nums ≡ b.pool.chosen.rows * row_width
  pub names_long : length b.names ≡ b.pool.chosen.rows * max_path
  pub dirs_long : length b.dirs ≡ b.pool.chosen.dir_rows * dir_width
  pub queue_long : length b.pool.queue ≡ 64
  -- what lies past the counts is zero
  pub nums_rest : (j : ℕ) → b.pool.held * row_width ≤ j → get_or b.nums j 0 ≡ 0
  pub names_rest : (j : ℕ) → b.pool.held * max_path ≤ j → get_or b.names j 0 ≡ 0
  pub dirs_rest : (j : ℕ) → b.pool.dirs * dir_width ≤ j → get_or b.dirs j 0 ≡ 0
  pub queue_rest : (j : ℕ) → b.pool.free ≤ j → get_or b.pool.queue j 0 ≡ 0
  -- marks are 0 (unbound), 1 (clean) and 2 (dirty); an unbound row is zero but for its generation; a name is zero behind the path
  pub marks : (i : ℕ) → i < b.pool.held → mark_at b i ≤ 2
  pub bare : (i : ℕ) → i < b.pool.held → mark_at b i ≡ 0 → (path_len_at b i ≡ 0) × (get_or b.nums (i * row_width + 2) 0 ≡ 0)
  pub short : (i : ℕ) → i < b.pool.held → path_len_at b i ≤ max_path
  pub fill : (i j : ℕ) → i < b.pool.held → path_len_at b i ≤ j → j < max_path → get_or b.names (i * max_path + j) 0 ≡ 0
  pub young : (i : ℕ) → i < b.pool.held → get_or b.nums (i * row_width + 3) 0 < b.pool.counter

-- ---- every pool reads so

row_marks : (r : Row) → get_or (row_nums r) 0 0 ≤ 2
unfolding row_nums mark_of
row_marks (unbound g) = omega arith
row_marks (bound p f) = by_mark f.dirty
  where
    by_mark : (d : Bool) → mark_of d ≤ 2
    by_mark true = omega arith
    by_mark false = omega arith

row_bare : (r : Row) → get_or (row_nums r) 0 0 ≡ 0 → (get_or (row_nums r) 1 0 ≡ 0) × (get_or (row_nums r) 2 0 ≡ 0)
unfolding row_nums mark_of
row_bare (unbound g) e = (refl, refl)
row_bare (bound p f) e = by_mark f.dirty e
  where
    by_mark : (d : Bool) → mark_of d ≡ 0 → (length p ≡ 0) × (f.len ≡ 0)
    by_mark true e = absurd (omega arith)
    by_mark false e = absurd (omega arith)

row_path : (r : Row) → get_or (row_nums r) 1 0 ≡ length (path_of r)
unfolding row_nums path_of
row_path (unbound g) = refl
row_path (bound p f) = refl

row_gen : (r : Row) → get_or (row_nums r) 3 0 ≡ gen_of r
unfolding row_nums gen_of
row_gen (unbound g) = refl
row_gen (bound p f) = refl

module _ (b : Bufs) (P : IsPool b) where
  F : Flat b.pool.chosen.rows b.pool.held b.nums b.names
  F = pool_rows b P

  G : FlatDirs b.pool.chosen.dir_rows b.pool.dirs b.dirs
  G = pool_dirs b P

  num : (i k : ℕ) → i < b.pool.held → k < 4 → get_or b.nums (i * row_width + k) 0 ≡ get_or (row_nums (at (rows_of b.nums b.names b.pool.held) i)) k 0
  num i k h q = num_at b.pool.chosen.rows b.pool.held b.nums b.names F i h k q

  mark : (i : ℕ) → i < b.pool.held → mark_at b i ≡ get_or (row_nums (at (rows_of b.nums b.names b.pool.held) i)) 0 0
  mark i h = let z : i * row_width ≡ i * row_width + 0 = omega arith in ap (λ (k : ℕ). get_or b.nums k 0) z ∙ num i 0 h (omega arith)

  path_len : (i : ℕ) → i < b.pool.held → path_len_at b i ≡ length (path_of (at (rows_of b.nums b.names b.pool.held) i))
  path_len i h = num i 1 h (omega arith) ∙ row_path (at (rows_of b.nums b.names b.pool.held) i)

  pad_fill : (p : List ℕ) (j : ℕ) → length p ≤ max_path → length p ≤ j → get_or (pad max_path p) j 0 ≡ 0
  pad_fill p j h k = get_or_pad max_path p j h ∙ get_or-eq_default p 0 k

  filled : (i j : ℕ) → i < b.pool.held → path_len_at b i ≤ j → j < max_path → get_or b.names (i * max_path + j) 0 ≡ 0
  unfolding flat_names row_name
  filled i j h k q =
      let rs = rows_of b.nums b.names b.pool.held in
      let n : length rs ≡ b.pool.held = length_rows b.nums b.names b.pool.held in
      ap (λ (x : List ℕ). get_or x (i * max_path + j) 0) (sym F.names)
      ∙ flat_at row_name max_path name_wide b.pool.chosen.rows rs i j none (omega (arith, F.few)) (omega arith) q
      ∙ pad_fill (path_of (at rs i)) j (F.short i) (omega (arith, path_len i h))

  free_long : length (queue_of b.pool) ≡ b.pool.free
  unfolding pool_of view
  free_long = ap (λ (x : Pool). x.free) (pool_canon b P)

  free_few : b.pool.free ≤ b.pool.held
  unfolding view
  free_few = omega (arith, queue_few (view b) P.valid, free_long, length_rows b.nums b.names b.pool.held)

  padded : pad 64 (queue_of b.pool) ≡ b.pool.queue
  unfolding pool_of view
  padded = ap (λ (x : Pool). x.queue) (pool_canon b P)

  pub pool_reads : Reads b
  unfolding view flat_nums flat_names flat_dirs
  pool_reads =
      let rs = rows_of b.nums b.names b.pool.held in
      let ds = dirs_of b.dirs b.pool.dirs in
      let n : length rs ≡ b.pool.held = length_rows b.nums b.names b.pool.held in
      let m : length ds ≡ b.pool.dirs = length_dirs b.dirs b.pool.dirs in
      record {
        rows = P.valid.counts.small;
        dir_rows_lem = P.valid.counts.dirs_small;
        held = F.few;
        dirs = G.few;
        free = free_few;
        begun = P.valid.counts.begun;
        counted = P.valid.counts.counted;
        nums_long = nums_long b.pool.chosen.rows b.pool.held b.nums b.names F;
        names_long = names_long b.pool.chosen.rows b.pool.held b.nums b.names F;
        dirs_long = dirs_long b.pool.chosen.dir_rows b.pool.dirs b.dirs G;
        queue_long = ap length (sym padded) ∙ length_pad 64 (queue_of b.pool);
        nums_rest = rest_zero (b.pool.chosen.rows * row_width) (b.pool.held * row_width) (cat row_nums rs) b.nums F.nums (length_cat row_nums 4 nums_wide rs ∙ rw n) (omega (arith, F.few));
        names_rest = rest_zero (b.pool.chosen.rows * max_path) (b.pool.held * max_path) (cat row_name rs) b.names F.names (length_cat row_name max_path name_wide rs ∙ rw n) (omega (arith, F.few));
        dirs_rest = rest_zero (b.pool.chosen.dir_rows * dir_width) (b.pool.dirs * dir_width) (cat dir_row ds) b.dirs G.flat (length_cat dir_row dir_width row_wide ds ∙ rw m) (omega (arith, G.few));
        queue_rest = rest_zero 64 b.pool.free (queue_of b.pool) b.pool.queue padded free_long (omega (arith, free_few, F.few, P.valid.counts.small));
        marks = λ i h. omega (arith, mark i h, row_marks (at rs i));
        bare = λ i h e. (num i 1 h (omega arith) ∙ (row_bare (at rs i) (sym (mark i h) ∙ e)).0, num i 2 h (omega arith) ∙ (row_bare (at rs i) (sym (mark i h) ∙ e)).1);
        short = λ i h. omega (arith, path_len i h, F.short i);
        fill = filled;
        young = λ i h. omega (arith, num i 3 h (omega arith), row_gen (at rs i), P.valid.slots.young i);
      }
