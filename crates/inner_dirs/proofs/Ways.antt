-- The ways out of create_dir_all, exists and metadata, and of one slot of sync_dir, over plain values: each takes the callees' contracts
-- and gives the equation of one exit.
use Prim.Native.Nat.{ℕ, ◌+◌, ◌-◌, ◌≤◌, ◌<◌}
use native.Mathlib.Omega.{arith}
use mathlib.Core.Path.{◌≡◌, refl, sym, ap, ap₂, ◌∙◌}
use mathlib.Core.Bool.{Bool, true, false, cond, false≢true}
use mathlib.Core.List.{List, ◌∷◌}
use lib.Dec.{ltb}
use lib.ListN.{length}
use borrow.Author.Tests.{lt-ltb, le-ltb}
use Rattle.limits.specs.Limits.{max_path}
use Rattle.path.specs.Path.{is_parent, normal, ancestors}
use Rattle.device.specs.declared.Geometry.{Geometry}
use Rattle.device.specs.Device.{Dev}
use Rattle.slot_rows.specs.Rows.{Row, unbound, bound, at, is_bound, path_of, len_of, is_dirty, find}
use Rattle.slot_rows.proofs.InBuffers.{length_rows}
use Rattle.dir_rows.specs.Dirs.{has_path, absent, registered_with}
use Rattle.dir_rows.specs.Rows.{dirs_of, FlatDirs}
use Rattle.dir_rows.proofs.InBuffer.{length_dirs}
use Rattle.dir_rows.proofs.Registering.{length_registered_with}
use Rattle.pool_state.specs.declared.Pool.{Pool}
use Rattle.pool_state.specs.State.{Bufs, bufs, view, pool_of, queue_of, IsPool}
use Rattle.pool_state.specs.Changes.{with_dirs}
use Rattle.pool_state.specs.InBuffers.{pool_canon, pool_rows, together}
use Rattle.pool_steps.specs.World.{Lent, lent, view_w, flat_w}
use Rattle.pool_steps.specs.Steps.{sync_row_m}
use Rattle.pool_steps.specs.Outcome.{outcome, flat_o, None}
use Rattle.inner_handle.proofs.Stays.{stays}
use Rattle.inner_open.specs.Files.{is_file}
use Rattle.inner_open.proofs.Ways.{rows_in, dirs_in, with_dir_count}
use Rattle.inner_dirs.specs.Folders.{flat_b, too_long, create_dir_all_m, exists_m, metadata_m, is_due, sync_one_m}

-- ---- create_dir_all

module _ (path : List ℕ) (b : Bufs) (P : IsPool b) (k : ℕ) (e : k ≡ length (normal path)) where
  refused : (n : ℕ) → outcome n tt b ≡ flat_b (outcome {R = None} n tt (view b))
  unfolding flat_b
  refused n = ap (outcome n tt) (sym P.canon)

  pub create_long : max_path < k → outcome 4 tt b ≡ flat_b (create_dir_all_m path (view b))
  unfolding create_dir_all_m
  create_long h = let z : too_long path ≡ true = lt-ltb max_path (length (normal path)) (omega arith) in rw z (refused 4)

  module _ (short : k ≤ max_path) (m : ℕ) (q : m ≡ length (absent (dirs_in b) (normal path ∷ ancestors path))) where
    fits : too_long path ≡ false
    fits = le-ltb max_path (length (normal path)) (omega arith)

    wanted : length (registered_with (dirs_in b) path) ≡ b.pool.dirs + m
    wanted = length_registered_with (dirs_in b) path ∙ ap₂ (λ (x y : ℕ). x + y) (length_dirs b.dirs b.pool.dirs) (sym q)

    pub create_full : b.pool.chosen.dir_rows - b.pool.dirs < m → outcome 8 tt b ≡ flat_b (create_dir_all_m path (view b))
    unfolding create_dir_all_m view
    create_full h =
        let n = length (registered_with (dirs_in b) path) in
        let z : ltb b.pool.chosen.dir_rows n ≡ true = lt-ltb b.pool.chosen.dir_rows n (omega (arith, wanted)) in
        rw (fits, z) (refused 8)

    module _ (few : b.pool.dirs ≤ b.pool.chosen.dir_rows) (h : m ≤ b.pool.chosen.dir_rows - b.pool.dirs) where
      -- there is room for what is missing
      pub create_room : (length (registered_with (dirs_in b) path) ≤ b.pool.chosen.dir_rows) × (length (normal path) ≤ max_path)
      create_room = (omega (arith, wanted), omega arith)

      pub create_done : (d : List ℕ) (n : ℕ) → dirs_of d n ≡ registered_with (dirs_in b) path → FlatDirs b.pool.chosen.dir_rows n d
          → outcome 0 tt (bufs (with_dir_count n b.pool) b.nums b.names d) ≡ flat_b (create_dir_all_m path (view b))
      unfolding create_dir_all_m flat_b with_dirs view pool_of
      create_done d n t G =
          let k = length (registered_with (dirs_in b) path) in
          let z : ltb b.pool.chosen.dir_rows k ≡ false = le-ltb b.pool.chosen.dir_rows k create_room.0 in
          let o : length (registered_with (dirs_in b) path) ≡ n = ap length (sym t) ∙ length_dirs d n in
          let r = length_rows b.nums b.names b.pool.held in
          let f : length (queue_of b.pool) ≡ b.pool.free = ap (λ (x : Pool). x.free) (pool_canon b P) in
          let c = ap (λ (x : Pool). x.queue) (pool_canon b P) in
          rw (fits, z)
          (ap (outcome 0 tt)
          (together (with_dirs (registered_with (dirs_in b) path) (view b)) _ b.nums b.names d (rw (r, o, f, c)) refl (pool_rows b P) t G))

-- ---- exists, metadata

module _ (path : List ℕ) (b : Bufs) (i : ℕ) (e : i ≡ find path (rows_in b)) where
  file : i < b.pool.held → is_file path (view b) ≡ true
  unfolding view
  file h = lt-ltb (find path (rows_in b)) (length (rows_in b)) (omega (arith, length_rows b.nums b.names b.pool.held))

  no_file : b.pool.held ≤ i → is_file path (view b) ≡ false
  unfolding view
  no_file h = le-ltb (find path (rows_in b)) (length (rows_in b)) (omega (arith, length_rows b.nums b.names b.pool.held))

  pub exists_file : i < b.pool.held → true ≡ exists_m path (view b)
  unfolding exists_m
  exists_file h = rw (file h)

  pub exists_dir : b.pool.held ≤ i → (t : Bool) → t ≡ has_path (dirs_in b) path → t ≡ exists_m path (view b)
  unfolding exists_m view
  exists_dir h t q = rw (no_file h) q

  pub metadata_file : (n : ℕ) → i < b.pool.held → n ≡ len_of (at (rows_in b) i) → record { out = 0; len = n; is_dir = false } ≡ metadata_m path (view b)
  unfolding metadata_m exists_m view
  metadata_file n h q = rw (file h, ← e, q)

  pub metadata_dir : b.pool.held ≤ i → has_path (dirs_in b) path ≡ true → record { out = 0; len = 0; is_dir = true } ≡ metadata_m path (view b)
  unfolding metadata_m exists_m view
  metadata_dir h q = rw (no_file h, q)

  pub metadata_none : b.pool.held ≤ i → has_path (dirs_in b) path ≡ false → record { out = 5; len = 0; is_dir = false } ≡ metadata_m path (view b)
  unfolding metadata_m exists_m view
  metadata_none h q = rw (no_file h, q)

-- ---- one slot of sync_dir

module _ (path : List ℕ) (r : Row) where
  -- the part of the names that is lent spells the row's path
  pub due_dirty : is_dirty r ≡ true → (q : List ℕ) → q ≡ path_of r → (t : Bool) → t ≡ is_parent path q → t ≡ is_due path r
  unfolding is_due
  due_dirty d q s t e = rw d (e ∙ ap (is_parent path) s)

  -- what is due is bound
  pub due_bound : is_due path r ≡ true → is_bound r ≡ true
  unfolding is_due is_dirty is_bound
  due_bound e = go (is_dirty r) refl e
    where
      dirty : (x : Row) → is_dirty x ≡ true → is_bound x ≡ true
      dirty (unbound g) d = d
      dirty (bound p f) d = refl

      go : (d : Bool) → is_dirty r ≡ d → cond d (is_parent path (path_of r)) false ≡ true → is_bound r ≡ true
      go true d t = dirty r d
      go false d t = absurd (false≢true t)

module _ (plan : List ℕ) (g : Geometry) (path : List ℕ) (i : ℕ) (l : Lent) where
  pub one_not : IsPool l.bufs → is_due path (at (rows_in l.bufs) i) ≡ false → outcome 0 tt l ≡ flat_o (sync_one_m plan g path i (view_w l))
  unfolding sync_one_m view_w view
  one_not P e = rw e (stays 0 tt l P)

  pub one_due : is_due path (at (rows_in l.bufs) i) ≡ true → (d : Dev) (b : Bufs) → lent d b ≡ flat_w (sync_row_m plan g i (view_w l))
      → outcome d.place.last tt (lent d b) ≡ flat_o (sync_one_m plan g path i (view_w l))
  unfolding sync_one_m view_w view flat_o flat_w
  one_due e d b q = rw e (ap (λ (y : Lent). outcome y.dev.place.last tt y) q)
