-- The ways out of the calls by path, over plain values: each takes the callees' contracts and gives the equation of one exit.
use Prim.Native.Nat.{ℕ, ◌+◌, ◌-◌, ◌*◌, ◌≤◌, ◌<◌}
use native.Mathlib.Omega.{arith}
use mathlib.Core.Path.{◌≡◌, sym, ap, ap₂, subst, ◌∙◌}
use mathlib.Core.Bool.{Bool, true, false, false≢true}
use mathlib.Core.List.{List}
use lib.Dec.{eqb, ltb}
use lib.ListN.{length, get_or, set, length-set, length-drop}
use borrow.Author.Tests.{eq-eqb, ne_eqb, lt-ltb, le-ltb}
use Rattle.limits.specs.Limits.{max_path, dir_width, last_counter}
use Rattle.lists.specs.Distinct.{In}
use Rattle.path.specs.Path.{normal, ancestors}
use Rattle.path.proofs.Theorems.{normal_short}
use Rattle.device.specs.declared.Geometry.{Geometry}
use Rattle.device.specs.Device.{Dev, dev, Shape, data_truncate_m}
use Rattle.slot_rows.specs.Rows.{File, Row, file, bound, at, is_bound, gen_of, len_of, resized, find, rows_of, Flat}
use Rattle.slot_rows.proofs.InBuffers.{length_rows}
use Rattle.slot_rows.proofs.Finding.{find_holds, holds_bound}
use Rattle.dir_rows.specs.Dirs.{absent, registered}
use Rattle.dir_rows.specs.Rows.{dirs_of, FlatDirs}
use Rattle.dir_rows.proofs.InBuffer.{length_dirs, dirs_long}
use Rattle.dir_rows.proofs.Registering.{length_registered}
use Rattle.pool_state.specs.declared.Pool.{Pool}
use Rattle.pool_state.specs.declared.Popped.{Popped}
use Rattle.pool_state.specs.State.{State, Valid, Bufs, bufs, view, pool_of, queue_of, flat, IsPool}
use Rattle.pool_state.specs.Queue.{queued, unqueued, spent, pushed, popped, ticked}
use Rattle.pool_state.proofs.Pops.{pop_pool, pop_flat}
use Rattle.pool_state.specs.InBuffers.{is_pool_lem, pool_canon, together, queue_fits, spend_flat, push_flat, first_in, unqueued_valid, spent_valid}
use Rattle.pool_state.specs.Changes.{with_row, with_dirs, row_flat}
use Rattle.pool_steps.specs.World.{Lent, lent, view_w, flat_w, Ready}
use Rattle.pool_steps.specs.Steps.{fine_m, release_m}
use Rattle.pool_steps.specs.Outcome.{Outcome, outcome, flat_o}
use Rattle.inner_handle.specs.Handles.{resized_m}
use Rattle.inner_handle.proofs.Stays.{stays}
use Rattle.inner_open.specs.declared.Writer.{Writer}
use Rattle.inner_open.specs.Files.{room_for, registers, binds, open_read_m, Handle, handle, no_handle, reopen_m, created, create_m, admits_new, open_new_m, open_write_m, remove_m}
use Rattle.inner_open.proofs.Stays.{room_made}

-- the rows and the directories of the buffers
abbrev pub rows_in : Bufs → List Row
rows_in b = rows_of b.nums b.names b.pool.held

abbrev pub dirs_in : Bufs → List (List ℕ)
dirs_in b = dirs_of b.dirs b.pool.dirs

-- ---- room

module _ (need : ℕ) (path b : List ℕ) (cap m counter k : ℕ) (few : m ≤ cap) (small : need ≤ 2) (e : k ≡ length (absent (dirs_of b m) (ancestors path))) where
  wanted : length (registered (dirs_of b m) path) ≡ m + k
  wanted = length_registered (dirs_of b m) path ∙ ap₂ (λ (x y : ℕ). x + y) (length_dirs b m) (sym e)

  pub room_dirs : cap - m < k → 8 ≡ room_for need path cap (dirs_of b m) counter
  unfolding room_for
  room_dirs h = let z : ltb cap (length (registered (dirs_of b m) path)) ≡ true = lt-ltb cap (length (registered (dirs_of b m) path)) (omega (arith, wanted)) in rw z

  pub room_last : k ≤ cap - m → last_counter - need < counter → 9 ≡ room_for need path cap (dirs_of b m) counter
  unfolding room_for
  room_last h o =
      let z : ltb cap (length (registered (dirs_of b m) path)) ≡ false = le-ltb cap (length (registered (dirs_of b m) path)) (omega (arith, wanted)) in
      let y : ltb last_counter (counter + need) ≡ true = lt-ltb last_counter (counter + need) (omega arith) in
      rw (z, y)

  pub room_enough : k ≤ cap - m → counter ≤ last_counter - need → 0 ≡ room_for need path cap (dirs_of b m) counter
  unfolding room_for
  room_enough h o =
      let z : ltb cap (length (registered (dirs_of b m) path)) ≡ false = le-ltb cap (length (registered (dirs_of b m) path)) (omega (arith, wanted)) in
      let y : ltb last_counter (counter + need) ≡ false = le-ltb last_counter (counter + need) (omega arith) in
      rw (z, y)

-- what lies in the directory rows
pub dirs_fit : (cap m : ℕ) (b : List ℕ) → FlatDirs cap m b → m * dir_width ≤ length b
dirs_fit cap m b F = omega (arith, F.few, dirs_long cap m b F)

-- ---- bind

-- the record with another count of directories
abbrev pub with_dir_count : ℕ → Pool → Pool
with_dir_count m q =
    record { chosen = q.chosen; held = q.held; dirs = m; counter = q.counter; free = q.free; queue = q.queue }

pub normal_fits : (path : List ℕ) → length path ≤ max_path → length (normal path) ≤ max_path
normal_fits path h = omega (arith, normal_short path)

pub bind_is : (b : Bufs) → IsPool b → (i : ℕ) (path : List ℕ) (f : File) (l n d : List ℕ) (m : ℕ)
    → rows_of l n b.pool.held ≡ set (rows_in b) i (bound path f) → Flat b.pool.chosen.rows b.pool.held l n
    → dirs_of d m ≡ registered (dirs_in b) path → FlatDirs b.pool.chosen.dir_rows m d
    → bufs (with_dir_count m b.pool) l n d ≡ flat (binds i path f (view b))
unfolding binds registers with_dirs with_row view pool_of
bind_is b P i path f l n d m e F t G =
    let s = binds i path f (view b) in
    let r = bound path f in
    let k : length (set (rows_in b) i r) ≡ b.pool.held = length-set (rows_in b) i r ∙ length_rows b.nums b.names b.pool.held in
    let o : length (registered (dirs_in b) path) ≡ m = ap length (sym t) ∙ length_dirs d m in
    let u : length (queue_of b.pool) ≡ b.pool.free = ap (λ (x : Pool). x.free) (pool_canon b P) in
    let q = ap (λ (x : Pool). x.queue) (pool_canon b P) in
    together s _ l n d (rw (k, o, u, q)) e F t G

-- ---- the file of a path

-- a row that is found is held and bound
pub found_row : (path l n : List ℕ) (k i : ℕ) → i ≡ find path (rows_of l n k) → i < k → (i < k) × (is_bound (at (rows_of l n k) i) ≡ true)
found_row path l n k i e h =
    let f : find path (rows_of l n k) < length (rows_of l n k) = omega (arith, length_rows l n k) in
    (h, subst (λ (j : ℕ). is_bound (at (rows_of l n k) j) ≡ true) (sym e) (holds_bound path (at (rows_of l n k) (find path (rows_of l n k))) (find_holds path (rows_of l n k) f)))

module _ (b : Bufs) (path : List ℕ) (i : ℕ) (e : i ≡ find path (rows_in b)) where
  is_file_lem : i < b.pool.held → ltb (find path (rows_in b)) (length (rows_in b)) ≡ true
  is_file_lem h = lt-ltb (find path (rows_in b)) (length (rows_in b)) (omega (arith, length_rows b.nums b.names b.pool.held))

  no_file : b.pool.held ≤ i → ltb (find path (rows_in b)) (length (rows_in b)) ≡ false
  no_file h = le-ltb (find path (rows_in b)) (length (rows_in b)) (omega (arith, length_rows b.nums b.names b.pool.held))

  pub open_read_found : (g : ℕ) → i < b.pool.held → g ≡ gen_of (at (rows_in b) i) → record { out = 0; slot = i; generation = g } ≡ open_read_m path (view b)
  unfolding open_read_m view
  open_read_found g h k = rw (is_file_lem h, ← e, k)

  pub open_read_none : b.pool.held ≤ i → record { out = 5; slot = 0; generation = 0 } ≡ open_read_m path (view b)
  unfolding open_read_m view
  open_read_none h = rw (no_file h)

-- ---- reopen

-- what the device calls on a held slot need
pub on_slot_lem : (g : Geometry) (l : Lent) (i : ℕ) → Ready g l → i < l.bufs.pool.held → Shape g l.dev.bytes l.dev.phys × (i < length l.dev.phys)
on_slot_lem g l i R h = (R.shape, omega (arith, R.slots))

-- an open's answer with the buffers
abbrev pub written : Writer → List ℕ → List ℕ → List ℕ → List ℕ → List ℕ → Outcome Handle Lent
written x b h l n d = outcome x.out (handle x.slot x.generation x.len) (lent (dev b h x.place) (bufs x.pool l n d))

pub answered : (x y : Writer) (b h l n d : List ℕ) (o : Outcome Handle Lent) → x ≡ y → written y b h l n d ≡ o → written x b h l n d ≡ o
answered x y b h l n d o e q = ap (λ (z : Writer). written z b h l n d) e ∙ q

module _ (plan : List ℕ) (g : Geometry) (i : ℕ) (l : Lent) (P : IsPool l.bufs) where
  abbrev b : Bufs
  b = l.bufs

  abbrev row : Row
  row = at (rows_in b) i

  pub reopen_kept : (keep : Bool) → keep ≡ true → (y n : ℕ) → y ≡ gen_of row → n ≡ len_of row → outcome 0 (handle i y n) l ≡ flat_o (reopen_m plan g i keep (view_w l))
  unfolding reopen_m view_w view
  reopen_kept keep k y n p q = rw (k, p, q) (stays 0 (handle i (gen_of row) (len_of row)) l P)

  module _ (keep : Bool) (k : keep ≡ false) (e : Dev) (q : e ≡ data_truncate_m plan g i 0 l.dev) where
    abbrev d : Dev
    d = data_truncate_m plan g i 0 l.dev

    pub reopen_stopped : (e.place.last ≡ 0 → ⊥) → outcome e.place.last no_handle (lent e b) ≡ flat_o (reopen_m plan g i keep (view_w l))
    unfolding reopen_m resized_m flat_o flat_w view_w view
    reopen_stopped ne =
        let f : fine_m d ≡ false = sym (ap fine_m q) ∙ ne_eqb e.place.last 0 ne in
        rw (k, f) (ap (λ (x : Dev). outcome x.place.last no_handle (lent x b)) q ∙ ap (λ (x : Bufs). outcome d.place.last no_handle (lent d x)) (sym P.canon))

    pub reopen_done : e.place.last ≡ 0 → (y : ℕ) → y ≡ gen_of row → (l₁ : List ℕ) → rows_of l₁ b.names b.pool.held ≡ set (rows_in b) i (resized 0 true row)
        → Flat b.pool.chosen.rows b.pool.held l₁ b.names
        → outcome 0 (handle i y 0) (lent e (bufs b.pool l₁ b.names b.dirs)) ≡ flat_o (reopen_m plan g i keep (view_w l))
    unfolding reopen_m resized_m flat_o flat_w view_w view
    reopen_done z y p l₁ r F =
        let f : fine_m d ≡ true = sym (ap fine_m q) ∙ eq-eqb e.place.last 0 z in
        let c = row_flat b P i (resized 0 true row) l₁ b.names r F in
        rw (k, f, p)
        (ap (λ (n : ℕ). outcome n (handle i (gen_of row) 0) (lent e (bufs b.pool l₁ b.names b.dirs))) (sym z)
        ∙ ap₂ (λ (x : Dev) (u : Bufs). outcome x.place.last (handle i (gen_of row) 0) (lent x u)) q c)

-- ---- create

module _ (g : Geometry) (l : Lent) (R : Ready g l) (p : 0 < l.bufs.pool.free) (c : l.bufs.pool.counter < last_counter) where
  abbrev c₀ : Bufs
  c₀ = l.bufs

  -- the state without its first free slot, with a generation spent
  abbrev begun : State
  begun = spent (unqueued (view c₀))

  free_long : length (queue_of c₀.pool) ≡ c₀.pool.free
  unfolding pool_of view
  free_long = ap (λ (x : Pool). x.free) (pool_canon c₀ R.pool)

  queued_some : 0 < length (queue_of c₀.pool)
  queued_some = omega (arith, free_long)

  queued_few : length (queue_of c₀.pool) ≤ 64
  unfolding view
  queued_few = queue_fits (view c₀) R.pool.valid

  few_left : length begun.queue < 64
  unfolding spent unqueued view
  few_left = omega (arith, queued_some, queued_few, length-drop 1 (queue_of c₀.pool))

  -- the slot that is taken
  abbrev first : ℕ
  first = get_or (queue_of c₀.pool) 0 0

  pub first_held_lem : first < c₀.pool.held
  unfolding view
  first_held_lem =
      let ok = R.pool.valid in
      omega (arith, ok.waiting.inside first (first_in (view c₀) ok queued_some), length_rows c₀.nums c₀.names c₀.pool.held)

  module _ (x : Popped) (ex : x ≡ popped c₀.pool) where
    pub slot_first : x.slot ≡ first
    unfolding view
    slot_first = ap (λ (y : Popped). y.slot) ex ∙ (pop_pool (view c₀) c₀.pool (sym (pool_canon c₀ R.pool)) queued_some queued_few).0

    -- what the device calls on it need
    pub slot_device : Shape g l.dev.bytes l.dev.phys × (x.slot < length l.dev.phys)
    slot_device = (R.shape, omega (arith, slot_first, first_held_lem, R.slots))

    pub spend_room : x.pool.counter < last_counter
    unfolding popped
    spend_room = subst (λ (y : Popped). y.pool.counter < last_counter) (sym ex) c

    module _ (q : Pool) (eq : q ≡ ticked x.pool) where
      abbrev b₂ : Bufs
      b₂ = bufs q c₀.nums c₀.names c₀.dirs

      q_is : q ≡ ticked (popped c₀.pool).pool
      q_is = eq ∙ ap (λ (y : Popped). ticked y.pool) ex

      begun_flat : b₂ ≡ flat begun
      unfolding view
      begun_flat =
          let f = pop_flat (view c₀) c₀ (sym R.pool.canon) queued_some queued_few in
          ap (λ (y : Pool). bufs y c₀.nums c₀.names c₀.dirs) q_is
          ∙ spend_flat (unqueued (view c₀)) (bufs (popped c₀.pool).pool c₀.nums c₀.names c₀.dirs) f

      begun_valid : Valid begun
      unfolding unqueued view
      begun_valid = spent_valid (unqueued (view c₀)) (unqueued_valid (view c₀) R.pool.valid) c

      pub begun_pool : (view b₂ ≡ begun) × IsPool b₂
      begun_pool = is_pool_lem begun b₂ begun_valid begun_flat

      same_held : (q.held ≡ c₀.pool.held) × (q.dirs ≡ c₀.pool.dirs) × (q.chosen.dir_rows ≡ c₀.pool.chosen.dir_rows)
      unfolding ticked popped
      same_held = (ap (λ (y : Pool). y.held) q_is, ap (λ (y : Pool). y.dirs) q_is, ap (λ (y : Pool). y.chosen.dir_rows) q_is)

      pub push_room : (q.free < 64) × (x.slot < 64)
      unfolding ticked popped view
      push_room =
          let f : q.free ≡ c₀.pool.free - 1 = ap (λ (y : Pool). y.free) q_is in
          let n = R.pool.valid.counts in
          (omega (arith, queued_few, free_long), omega (arith, slot_first, first_held_lem, n.few, n.small, length_rows c₀.nums c₀.names c₀.pool.held))

      pub bind_ready : (path : List ℕ) → length path ≤ max_path → length (registered (dirs_in c₀) path) ≤ c₀.pool.chosen.dir_rows
          → (IsPool b₂ × (x.slot < q.held) × (length path ≤ max_path)) × (length (registered (dirs_of c₀.dirs q.dirs) path) ≤ q.chosen.dir_rows)
      bind_ready path s h =
          let k : x.slot < q.held = omega (arith, slot_first, first_held_lem, same_held.0) in
          ((begun_pool.1, k, s), rw (same_held.1, same_held.2) h)

      module _ (plan path : List ℕ) (e : Dev) (eq₂ : e ≡ data_truncate_m plan g x.slot 0 l.dev) where
        abbrev d₂ : Dev
        d₂ = data_truncate_m plan g first 0 l.dev

        cut_is : e ≡ d₂
        cut_is = eq₂ ∙ ap (λ (j : ℕ). data_truncate_m plan g j 0 l.dev) slot_first

        pub create_stopped : (e.place.last ≡ 0 → ⊥) → (r : Pool) → r ≡ pushed x.slot q
            → outcome e.place.last no_handle (lent e (bufs r c₀.nums c₀.names c₀.dirs)) ≡ flat_o (create_m plan g path (view_w l))
        unfolding create_m created flat_o flat_w view_w view
        create_stopped ne r er =
            let f : fine_m d₂ ≡ false = sym (ap fine_m cut_is) ∙ ne_eqb e.place.last 0 ne in
            let w : bufs r c₀.nums c₀.names c₀.dirs ≡ flat (queued first begun) =
            ap (λ (y : Pool). bufs y c₀.nums c₀.names c₀.dirs) (er ∙ ap (λ (j : ℕ). pushed j q) slot_first) ∙ push_flat begun b₂ begun_flat first few_left in
            rw f (ap₂ (λ (y : Dev) (z : Bufs). outcome y.place.last no_handle (lent y z)) cut_is w)

        pub create_done : e.place.last ≡ 0 → (y : ℕ) → y ≡ c₀.pool.counter → (u : Bufs) → u ≡ flat (binds x.slot path (file y 0 true) (view b₂))
            → outcome 0 (handle x.slot y 0) (lent e u) ≡ flat_o (create_m plan g path (view_w l))
        unfolding create_m created flat_o flat_w view_w view
        create_done z y ey u eu =
            let f : fine_m d₂ ≡ true = sym (ap fine_m cut_is) ∙ eq-eqb e.place.last 0 z in
            let v : u ≡ flat (binds first path (file c₀.pool.counter 0 true) begun) =
            eu ∙ ap (λ (t : State). flat (binds x.slot path (file y 0 true) t)) begun_pool.0
            ∙ ap₂ (λ (j k : ℕ). flat (binds j path (file k 0 true) begun)) slot_first ey in
            rw f
            (ap₂ (λ (j k : ℕ). outcome 0 (handle j k 0) (lent e u)) slot_first ey
            ∙ ap (λ (n : ℕ). outcome n (handle first c₀.pool.counter 0) (lent e u)) (sym z)
            ∙ ap₂ (λ (t : Dev) (m : Bufs). outcome t.place.last (handle first c₀.pool.counter 0) (lent t m)) cut_is v)

-- ---- open_write

-- what a room of 0 means
pub room_means : (need : ℕ) (path : List ℕ) (cap : ℕ) (ds : List (List ℕ)) (counter n : ℕ) → n ≡ room_for need path cap ds counter → n ≡ 0
    → (length (registered ds path) ≤ cap) × (counter + need ≤ last_counter)
room_means need path cap ds counter n e z = room_made need path cap ds counter (sym e ∙ z)

-- what makes a file possible
pub some_ready : (g : Geometry) (l : Lent) (path : List ℕ) → Ready g l → (l.bufs.pool.free ≡ 0 → ⊥) → length path ≤ max_path
    → (n : ℕ) → n ≡ room_for 1 path l.bufs.pool.chosen.dir_rows (dirs_in l.bufs) l.bufs.pool.counter → n ≡ 0
    → Ready g l
    × (((0 < l.bufs.pool.free) × (l.bufs.pool.counter < last_counter) × (length path ≤ max_path))
    × (length (registered (dirs_in l.bufs) path) ≤ l.bufs.pool.chosen.dir_rows))
some_ready g l path R f h n en z =
    let m = room_means 1 path l.bufs.pool.chosen.dir_rows (dirs_in l.bufs) l.bufs.pool.counter n en z in
    (R, ((omega (arith, f), omega (arith, m.1), h), m.0))

-- a new file: 7, 8 or 9, or it is made
module _ (plan : List ℕ) (g : Geometry) (path : List ℕ) (l : Lent) (P : IsPool l.bufs) where
  abbrev f₀ : Bufs
  f₀ = l.bufs

  free_is : length (queue_of f₀.pool) ≡ f₀.pool.free
  unfolding pool_of view
  free_is = ap (λ (x : Pool). x.free) (pool_canon f₀ P)

  none_free : f₀.pool.free ≡ 0 → outcome 7 no_handle l ≡ flat_o (open_new_m plan g path (view_w l))
  unfolding open_new_m admits_new view_w view
  none_free f = let z : eqb (length (queue_of f₀.pool)) 0 ≡ true = eq-eqb (length (queue_of f₀.pool)) 0 (free_is ∙ f) in rw z (stays 7 no_handle l P)

  module _ (f : f₀.pool.free ≡ 0 → ⊥) (n : ℕ) (en : n ≡ room_for 1 path f₀.pool.chosen.dir_rows (dirs_in f₀) f₀.pool.counter) where
    some_free : eqb (length (queue_of f₀.pool)) 0 ≡ false
    some_free = ne_eqb (length (queue_of f₀.pool)) 0 (λ z. f (sym free_is ∙ z))

    no_room : (n ≡ 0 → ⊥) → outcome n no_handle l ≡ flat_o (open_new_m plan g path (view_w l))
    unfolding open_new_m admits_new view_w view
    no_room ne = let z : eqb n 0 ≡ false = ne_eqb n 0 ne in rw (some_free, ← en, z) (stays n no_handle l P)

    enough : n ≡ 0 → (x : Outcome Handle Lent) → x ≡ flat_o (create_m plan g path (view_w l)) → x ≡ flat_o (open_new_m plan g path (view_w l))
    unfolding open_new_m admits_new view_w view
    enough z x q = let y : eqb n 0 ≡ true = eq-eqb n 0 z in rw (some_free, ← en, y) q

module _ (plan : List ℕ) (g : Geometry) (path : List ℕ) (keep : Bool) (l : Lent) where
  pub open_long : IsPool l.bufs → max_path < length path → outcome 4 no_handle l ≡ flat_o (open_write_m plan g path keep (view_w l))
  unfolding open_write_m
  open_long P h = let z : ltb max_path (length path) ≡ true = lt-ltb max_path (length path) h in rw z (stays 4 no_handle l P)

  module _ (short : length path ≤ max_path) (i : ℕ) (e : i ≡ find path (rows_in l.bufs)) where
    fits : ltb max_path (length path) ≡ false
    fits = le-ltb max_path (length path) short

    pub open_old : i < l.bufs.pool.held → (x : Outcome Handle Lent) → x ≡ flat_o (reopen_m plan g i keep (view_w l)) → x ≡ flat_o (open_write_m plan g path keep (view_w l))
    unfolding open_write_m view_w view
    open_old h x q = rw (fits, is_file_lem l.bufs path i e h, ← e) q

    module _ (h : l.bufs.pool.held ≤ i) where
      open_new : (x : Outcome Handle Lent) → x ≡ flat_o (open_new_m plan g path (view_w l)) → x ≡ flat_o (open_write_m plan g path keep (view_w l))
      unfolding open_write_m view_w view
      open_new x q = rw (fits, no_file l.bufs path i e h) q

      pub open_full : IsPool l.bufs → l.bufs.pool.free ≡ 0 → outcome 7 no_handle l ≡ flat_o (open_write_m plan g path keep (view_w l))
      open_full P f = open_new (outcome 7 no_handle l) (none_free plan g path l P f)

      pub open_refused : IsPool l.bufs → (l.bufs.pool.free ≡ 0 → ⊥)
          → (n : ℕ) → n ≡ room_for 1 path l.bufs.pool.chosen.dir_rows (dirs_in l.bufs) l.bufs.pool.counter → (n ≡ 0 → ⊥)
          → outcome n no_handle l ≡ flat_o (open_write_m plan g path keep (view_w l))
      open_refused P f n en ne = open_new (outcome n no_handle l) (no_room plan g path l P f n en ne)

      pub open_created : IsPool l.bufs → (l.bufs.pool.free ≡ 0 → ⊥)
          → (n : ℕ) → n ≡ room_for 1 path l.bufs.pool.chosen.dir_rows (dirs_in l.bufs) l.bufs.pool.counter → n ≡ 0
          → (x : Outcome Handle Lent) → x ≡ flat_o (create_m plan g path (view_w l)) → x ≡ flat_o (open_write_m plan g path keep (view_w l))
      open_created P f n en z x q = open_new x (enough plan g path l P f n en z x q)

-- ---- remove_file

-- a file's slot is not free
pub file_busy : (b : Bufs) → IsPool b → (path : List ℕ) (i : ℕ) → i ≡ find path (rows_in b) → i < b.pool.held → In i (queue_of b.pool) → ⊥
unfolding view
file_busy b P path i e h m = false≢true (sym (P.valid.waiting.idle i m) ∙ (found_row path b.nums b.names b.pool.held i e h).1)

module _ (plan : List ℕ) (g : Geometry) (path : List ℕ) (l : Lent) (P : IsPool l.bufs) (i : ℕ) (e : i ≡ find path (rows_in l.bufs)) where
  pub remove_none : l.bufs.pool.held ≤ i → outcome 5 tt l ≡ flat_o (remove_m plan g path (view_w l))
  unfolding remove_m view_w view
  remove_none h = rw (no_file l.bufs path i e h) (stays 5 tt l P)

  module _ (h : i < l.bufs.pool.held) where
    pub remove_last : last_counter ≤ l.bufs.pool.counter → outcome 9 tt l ≡ flat_o (remove_m plan g path (view_w l))
    unfolding remove_m view_w view
    remove_last c =
        let z : ltb last_counter (l.bufs.pool.counter + 1) ≡ true = lt-ltb last_counter (l.bufs.pool.counter + 1) (omega arith) in
        rw (is_file_lem l.bufs path i e h, z) (stays 9 tt l P)

    pub remove_done : l.bufs.pool.counter < last_counter → (d : Dev) (u : Bufs) → lent d u ≡ flat_w (release_m plan g i (view_w l))
        → outcome d.place.last tt (lent d u) ≡ flat_o (remove_m plan g path (view_w l))
    unfolding remove_m view_w view flat_o flat_w
    remove_done c d u q =
        let z : ltb last_counter (l.bufs.pool.counter + 1) ≡ false = le-ltb last_counter (l.bufs.pool.counter + 1) (omega arith) in
        rw (is_file_lem l.bufs path i e h, z, ← e) (ap (λ (y : Lent). outcome y.dev.place.last tt y) q)
