-- The ways out of a rename's steps, over plain values: each takes the callees' contracts and gives the equation of one exit.
use Prim.Native.Nat.{ℕ, ◌≤◌, ◌<◌}
use native.Mathlib.Omega.{arith}
use mathlib.Core.Path.{◌≡◌, sym, ap, ap₂, subst, ◌∙◌}
use mathlib.Core.Bool.{Bool, true, false, cond}
use mathlib.Core.List.{List}
use lib.Dec.{eqb, ltb}
use lib.ListN.{length, set}
use borrow.Author.Tests.{eq-eqb, ne_eqb, lt-ltb, le-ltb}
use Rattle.limits.specs.Limits.{max_path, last_counter}
use Rattle.lists.specs.Distinct.{In}
use Rattle.path.specs.Path.{same_path}
use Rattle.header.specs.declared.Header.{Header}
use Rattle.header.specs.Block.{bound_header, encoded}
use Rattle.device.specs.declared.Geometry.{Geometry}
use Rattle.device.specs.Device.{Dev, Shape}
use Rattle.slot_rows.specs.Rows.{Row, file, bound, at, is_bound, len_of, resized, find, rows_of, Flat}
use Rattle.slot_rows.proofs.InBuffers.{length_rows}
use Rattle.dir_rows.specs.Dirs.{registered}
use Rattle.dir_rows.specs.Rows.{dirs_of}
use Rattle.pool_state.specs.declared.Chosen.{Chosen}
use Rattle.pool_state.specs.declared.Pool.{Pool}
use Rattle.pool_state.specs.State.{State, Bufs, bufs, view, queue_of, flat, IsPool}
use Rattle.pool_state.specs.Queue.{ticked}
use Rattle.pool_state.specs.InBuffers.{pool_rows, spend_flat}
use Rattle.pool_state.specs.Changes.{with_row, row_flat}
use Rattle.pool_steps.specs.World.{World, Lent, lent, view_w, flat_w, Fit, Ready}
use Rattle.pool_steps.specs.Steps.{fine_m, put_m, release_m}
use Rattle.pool_steps.proofs.Stays.{world_is, ready_fit, lent_stays}
use Rattle.pool_steps.specs.Outcome.{Outcome, outcome, flat_o, None}
use Rattle.inner_handle.proofs.Stays.{stays}
use Rattle.inner_open.specs.Files.{room_for, registers, binds}
use Rattle.inner_rename.specs.declared.Course.{Course}
use Rattle.inner_rename.specs.Rename.{stopped, front_m, rebind_m, vacated_m, settled_m, renamed_m, rename_m}
use Rattle.inner_rename.proofs.PartsStay.{MayGo, vacated_fit, Stays, vacated_stays, Rebound, rebound}
use Rattle.inner_rename.proofs.Stays.{Goes, front_means, from_bound, room, left, rebound_fit, to_may_go}
use Rattle.inner_rename.proofs.Stays as Keeps

-- the rows and the directories of the buffers
abbrev pub rows_in : Bufs → List Row
rows_in b = rows_of b.nums b.names b.pool.held

abbrev pub dirs_in : Bufs → List (List ℕ)
dirs_in b = dirs_of b.dirs b.pool.dirs

held_rows : (b : Bufs) → length (rows_in b) ≡ b.pool.held
held_rows b = length_rows b.nums b.names b.pool.held

-- ---- front

pub need_two : (j n : ℕ) → j < n → ◌≡◌ {A = ℕ} 2 (cond (ltb j n) 2 1)
need_two j n h = rw (lt-ltb j n h)

pub need_one : (j n : ℕ) → n ≤ j → ◌≡◌ {A = ℕ} 1 (cond (ltb j n) 2 1)
need_one j n h = rw (le-ltb j n h)

pub need_small : (j n m : ℕ) → m ≡ cond (ltb j n) 2 1 → m ≤ 2
need_small j n m e = go (ltb j n) e
  where
    go : (t : Bool) → m ≡ cond t 2 1 → m ≤ 2
    go true e = omega arith
    go false e = omega arith

module _ (b : Bufs) (from to : List ℕ) where
  pub front_long : max_path < length to → stopped 4 ≡ front_m from to (view b)
  unfolding front_m
  front_long h = let z : ltb max_path (length to) ≡ true = lt-ltb max_path (length to) h in rw z

  module _ (short : length to ≤ max_path) (i : ℕ) (e : i ≡ find from (rows_in b)) where
    fits : ltb max_path (length to) ≡ false
    fits = le-ltb max_path (length to) short

    is_file_lem : i < b.pool.held → ltb (find from (rows_in b)) (length (rows_in b)) ≡ true
    is_file_lem h = lt-ltb (find from (rows_in b)) (length (rows_in b)) (omega (arith, held_rows b))

    no_file : b.pool.held ≤ i → ltb (find from (rows_in b)) (length (rows_in b)) ≡ false
    no_file h = le-ltb (find from (rows_in b)) (length (rows_in b)) (omega (arith, held_rows b))

    pub front_same : same_path from to ≡ true → i < b.pool.held → stopped 0 ≡ front_m from to (view b)
    unfolding front_m view
    front_same q h = rw (fits, q, is_file_lem h)

    pub front_same_none : same_path from to ≡ true → b.pool.held ≤ i → stopped 5 ≡ front_m from to (view b)
    unfolding front_m view
    front_same_none q h = rw (fits, q, no_file h)

    module _ (q : same_path from to ≡ false) where
      pub front_none : b.pool.held ≤ i → stopped 5 ≡ front_m from to (view b)
      unfolding front_m view
      front_none h = rw (fits, q, no_file h)

      module _ (h : i < b.pool.held) (j : ℕ) (ej : j ≡ find to (rows_in b)) (need : ℕ) (en : need ≡ cond (ltb j b.pool.held) 2 1)
          (n : ℕ) (er : n ≡ room_for need to b.pool.chosen.dir_rows (dirs_in b) b.pool.counter) where
        room_is : room_for (cond (ltb (find to (rows_in b)) (length (rows_in b))) 2 1) to b.pool.chosen.dir_rows (dirs_in b) b.pool.counter ≡ n
        room_is =
            let k : cond (ltb (find to (rows_in b)) (length (rows_in b))) 2 1 ≡ need = ap₂ {C = ℕ} (λ (x y : ℕ). cond (ltb x y) 2 1) (sym ej) (held_rows b) ∙ sym en in
            ap (λ (x : ℕ). room_for x to b.pool.chosen.dir_rows (dirs_in b) b.pool.counter) k ∙ sym er

        pub front_refused : (n ≡ 0 → ⊥) → stopped n ≡ front_m from to (view b)
        unfolding front_m view
        front_refused ne = let z : eqb n 0 ≡ false = ne_eqb n 0 ne in rw (fits, q, is_file_lem h, room_is, z)

        pub front_goes : n ≡ 0 → record { out = 0; go = true; from = i; to = j } ≡ front_m from to (view b)
        unfolding front_m view
        front_goes o = let z : eqb n 0 ≡ true = eq-eqb n 0 o in rw (fits, q, is_file_lem h, room_is, z, ← e, ← ej)

-- ---- rebind

-- what the device calls on a held slot need, and the header
pub header_ready : (g : Geometry) (l : Lent) (i : ℕ) → Ready g l → i < l.bufs.pool.held → (to : List ℕ) → length to ≤ max_path → (len generation : ℕ) (x : Header) → x ≡ bound_header (length to) len generation
    → (Shape g l.dev.bytes l.dev.phys × (i < length l.dev.phys)) × ((length to ≡ x.path_len) × (x.path_len ≤ max_path))
header_ready g l i R h to s len generation x e =
    let k : x.path_len ≡ length to = ap (λ (y : Header). y.path_len) e in
    ((R.shape, omega (arith, R.slots)), (sym k, omega arith))

module _ (g : Geometry) (l : Lent) (R : Ready g l) (i : ℕ) (plan to : List ℕ) (len : ℕ) (el : len ≡ len_of (at (rows_in l.bufs) i))
    (x : Header) (ex : x ≡ bound_header (length to) len l.bufs.pool.counter) (d : Dev) (ed : d ≡ put_m plan g i (encoded x to) l.dev)
    (q : Pool) (eq : q ≡ ticked l.bufs.pool) where
  abbrev b : Bufs
  b = l.bufs

  abbrev row : Row
  row = at (rows_in b) i

  abbrev put : Dev
  put = put_m plan g i (encoded (bound_header (length to) (len_of row) b.pool.counter) to) l.dev

  put_is : d ≡ put
  put_is = ed ∙ ap (λ (y : Header). put_m plan g i (encoded y to) l.dev) (ex ∙ ap (λ (n : ℕ). bound_header (length to) n b.pool.counter) el)

  pub rebind_done : d.place.last ≡ 0 → lent d (bufs q b.nums b.names b.dirs) ≡ flat_w (rebind_m plan g i to (view_w l))
  unfolding rebind_m flat_w view_w view
  rebind_done z =
      let f : fine_m put ≡ true = sym (ap fine_m put_is) ∙ eq-eqb d.place.last 0 z in
      rw f (ap₂ lent put_is (ap (λ (y : Pool). bufs y b.nums b.names b.dirs) eq ∙ spend_flat (view b) b (sym R.pool.canon)))

  pub rebind_stopped : (d.place.last ≡ 0 → ⊥) → (l₁ : List ℕ) → rows_of l₁ b.names b.pool.held ≡ set (rows_in b) i (resized len true row)
      → Flat b.pool.chosen.rows b.pool.held l₁ b.names → lent d (bufs q l₁ b.names b.dirs) ≡ flat_w (rebind_m plan g i to (view_w l))
  unfolding rebind_m flat_w view_w view
  rebind_stopped ne l₁ r F =
      let f : fine_m put ≡ false = sym (ap fine_m put_is) ∙ ne_eqb d.place.last 0 ne in
      let t = resized (len_of row) true row in
      let c = row_flat b R.pool i t l₁ b.names (r ∙ ap (λ (n : ℕ). set (rows_in b) i (resized n true row)) el) F in
      rw f (ap₂ lent put_is (ap (λ (y : Pool). bufs y l₁ b.names b.dirs) eq ∙ spend_flat (with_row i t (view b)) (bufs b.pool l₁ b.names b.dirs) c))

-- ---- vacate

module _ (plan : List ℕ) (g : Geometry) (j : ℕ) (l : Lent) where
  pub vacate_none : IsPool l.bufs → l.bufs.pool.held ≤ j → l ≡ flat_w (vacated_m plan g j (view_w l))
  unfolding vacated_m view_w view
  vacate_none P h = let z : ltb j (length (rows_in l.bufs)) ≡ false = le-ltb j (length (rows_in l.bufs)) (omega (arith, held_rows l.bufs)) in rw z (lent_stays l P)

  pub vacate_done : j < l.bufs.pool.held → (x : Lent) → x ≡ flat_w (release_m plan g j (view_w l)) → x ≡ flat_w (vacated_m plan g j (view_w l))
  unfolding vacated_m view_w view
  vacate_done h x q = let z : ltb j (length (rows_in l.bufs)) ≡ true = lt-ltb j (length (rows_in l.bufs)) (omega (arith, held_rows l.bufs)) in rw z q

-- ---- settle

module _ (g : Geometry) (l : Lent) (R : Ready g l) (i j : ℕ) (plan to : List ℕ) (m : j < l.bufs.pool.held → (In j (queue_of l.bufs.pool) → ⊥) × (l.bufs.pool.counter < last_counter))
    (h : i < l.bufs.pool.held) (short : length to ≤ max_path) (room : length (registered (dirs_in l.bufs) to) ≤ l.bufs.pool.chosen.dir_rows)
    (e : Dev) (q : Pool) (l₁ n₁ : List ℕ) (v : lent e (bufs q l₁ n₁ l.bufs.dirs) ≡ flat_w (vacated_m plan g j (view_w l))) where
  abbrev u : World
  u = vacated_m plan g j (view_w l)

  abbrev b₁ : Bufs
  b₁ = bufs q l₁ n₁ l.bufs.dirs

  may_go : MayGo j (view_w l).state
  unfolding view_w view
  may_go k = m (omega (arith, held_rows l.bufs))

  ready : (view_w (lent e b₁) ≡ u) × Ready g (lent e b₁)
  ready = world_is g u (lent e b₁) (vacated_fit plan g (view_w l) (ready_fit g l R) j may_go) v

  state_is : view b₁ ≡ u.state
  unfolding view_w
  state_is = ap (λ (x : World). x.state) ready.0

  stay : Stays (view l.bufs) u.state
  unfolding view_w
  stay = vacated_stays plan g j (view_w l)

  held_same : q.held ≡ l.bufs.pool.held
  unfolding view
  held_same = sym (held_rows b₁) ∙ ap (λ (x : State). length x.rows) state_is ∙ stay.rows ∙ held_rows l.bufs

  dirs_same : dirs_of l.bufs.dirs q.dirs ≡ dirs_in l.bufs
  unfolding view
  dirs_same = ap (λ (x : State). x.dirs) state_is ∙ stay.dirs

  cap_same : q.chosen.dir_rows ≡ l.bufs.pool.chosen.dir_rows
  unfolding view
  cap_same = ap (λ (x : State). x.chosen.dir_rows) state_is ∙ ap (λ (x : Chosen). x.dir_rows) stay.chosen

  pub row_ready : Flat q.chosen.rows q.held l₁ n₁ × (i < q.held) × (length to ≤ max_path)
  row_ready = (pool_rows b₁ ready.1.pool, omega (arith, held_same), short)

  pub bind_ready : (IsPool b₁ × (i < q.held) × (length to ≤ max_path)) × (length (registered (dirs_of l.bufs.dirs q.dirs) to) ≤ q.chosen.dir_rows)
  bind_ready = ((ready.1.pool, omega (arith, held_same), short), rw (dirs_same, cap_same) room)

  device_is : e ≡ u.dev
  unfolding flat_w
  device_is = ap (λ (x : Lent). x.dev) v

  module _ (generation len : ℕ) where
    pub settle_stopped : (e.place.last ≡ 0 → ⊥) → (l₂ n₂ : List ℕ)
        → rows_of l₂ n₂ q.held ≡ set (rows_of l₁ n₁ q.held) i (bound to (file generation len false))
        → Flat q.chosen.rows q.held l₂ n₂
        → outcome e.place.last tt (lent e (bufs q l₂ n₂ l.bufs.dirs)) ≡ flat_o (settled_m plan g i j to generation len (view_w l))
    unfolding settled_m flat_o flat_w
    settle_stopped ne l₂ n₂ r F =
        let f : fine_m u.dev ≡ false = sym (ap fine_m device_is) ∙ ne_eqb e.place.last 0 ne in
        let t = bound to (file generation len false) in
        let c = row_flat b₁ ready.1.pool i t l₂ n₂ r F ∙ ap (λ (s : State). flat (with_row i t s)) state_is in
        rw f (ap₂ (λ (x : Dev) (y : Bufs). outcome x.place.last tt (lent x y)) device_is c)

    pub settle_done : e.place.last ≡ 0 → (x : Bufs) → x ≡ flat (binds i to (file generation len false) (view b₁))
        → outcome 0 tt (lent e x) ≡ flat_o (settled_m plan g i j to generation len (view_w l))
    unfolding settled_m flat_o flat_w binds
    settle_done z x k =
        let f : fine_m u.dev ≡ true = sym (ap fine_m device_is) ∙ eq-eqb e.place.last 0 z in
        let t = bound to (file generation len false) in
        let c = k ∙ ap (λ (s : State). flat (registers to (with_row i t s))) state_is in
        rw f (ap (λ (n : ℕ). outcome n tt (lent e x)) (sym z) ∙ ap₂ (λ (y : Dev) (w : Bufs). outcome y.place.last tt (lent y w)) device_is c)

-- ---- rename

module _ (g : Geometry) (l : Lent) (R : Ready g l) (plan from to : List ℕ) (f : Course) (ef : f ≡ front_m from to (view l.bufs)) where
  abbrev F : Course
  F = front_m from to (view l.bufs)

  pub rename_stopped : f.go ≡ false → outcome f.out tt l ≡ flat_o (rename_m plan g from to (view_w l))
  unfolding rename_m view_w
  rename_stopped t =
      let k : F.go ≡ false = sym (ap (λ (x : Course). x.go) ef) ∙ t in
      rw k (ap (λ (x : Course). outcome x.out tt l) ef ∙ stays F.out tt l R.pool)

  module _ (t : f.go ≡ true) where
    going : F.go ≡ true
    going = sym (ap (λ (x : Course). x.go) ef) ∙ t

    goes : Goes from to (view l.bufs) F
    goes = front_means from to (view l.bufs) going

    fit : Fit g (view_w l)
    fit = ready_fit g l R

    goes_world : Goes from to (view_w l).state F
    unfolding view_w
    goes_world = goes

    from_is : f.from ≡ F.from
    from_is = ap (λ (x : Course). x.from) ef

    to_is : f.to ≡ F.to
    to_is = ap (λ (x : Course). x.to) ef

    pub from_held : f.from < l.bufs.pool.held
    unfolding view_w view
    from_held = omega (arith, from_is, Keeps.from_held plan g from to (view_w l) fit F goes_world, held_rows l.bufs)

    bound_there : is_bound (at (rows_in l.bufs) f.from) ≡ true
    unfolding view_w view
    bound_there = subst (λ (k : ℕ). is_bound (at (rows_in l.bufs) k) ≡ true) (sym from_is) (from_bound plan g from to (view_w l) fit F goes_world)

    made : length (registered (dirs_in l.bufs) to) ≤ l.bufs.pool.chosen.dir_rows
    unfolding view_w view
    made = (room plan g from to (view_w l) fit F goes_world).0

    below : l.bufs.pool.counter < last_counter
    unfolding view_w view
    below = left plan g from to (view_w l) fit F goes_world

    pub rebind_ready : Ready g l × ((f.from < l.bufs.pool.held) × (is_bound (at (rows_in l.bufs) f.from) ≡ true) × (l.bufs.pool.counter < last_counter) × (length to ≤ max_path))
    rebind_ready = (R, (from_held, bound_there, below, goes.short))

    module _ (e : Dev) (q : Pool) (l₁ : List ℕ) (v : lent e (bufs q l₁ l.bufs.names l.bufs.dirs) ≡ flat_w (rebind_m plan g f.from to (view_w l))) where
      abbrev w₁ : World
      w₁ = rebind_m plan g F.from to (view_w l)

      abbrev b₂ : Bufs
      b₂ = bufs q l₁ l.bufs.names l.bufs.dirs

      moved : lent e b₂ ≡ flat_w w₁
      moved = v ∙ ap (λ (x : Course). flat_w (rebind_m plan g x.from to (view_w l))) ef

      at_dev : e ≡ w₁.dev
      unfolding flat_w
      at_dev = ap (λ (x : Lent). x.dev) moved

      pub rename_failed : (e.place.last ≡ 0 → ⊥) → outcome e.place.last tt (lent e b₂) ≡ flat_o (rename_m plan g from to (view_w l))
      unfolding rename_m renamed_m flat_o flat_w view_w
      rename_failed ne =
          let k : fine_m w₁.dev ≡ false = sym (ap fine_m at_dev) ∙ ne_eqb e.place.last 0 ne in
          rw (going, k) (ap (λ (x : Lent). outcome x.dev.place.last tt x) moved)

      ready₂ : (view_w (lent e b₂) ≡ w₁) × Ready g (lent e b₂)
      ready₂ = world_is g w₁ (lent e b₂) (rebound_fit plan g from to (view_w l) fit F goes_world) moved

      view_is : view b₂ ≡ w₁.state
      unfolding view_w
      view_is = ap (λ (x : World). x.state) ready₂.0

      after : Rebound (view l.bufs) (view b₂)
      unfolding view_w
      after = subst (Rebound (view l.bufs)) (sym view_is) (rebound plan g F.from to (view_w l))

      held_after_lem : q.held ≡ l.bufs.pool.held
      unfolding view
      held_after_lem = sym (held_rows b₂) ∙ after.rows ∙ held_rows l.bufs

      to_goes : f.to < q.held → (In f.to (queue_of q) → ⊥) × (q.counter < last_counter)
      unfolding view
      to_goes h =
          let m : MayGo f.to (view b₂) = subst (λ (j : ℕ). MayGo j (view b₂)) (sym to_is) (subst (MayGo F.to) (sym view_is) (to_may_go plan g from to (view_w l) fit F goes_world)) in
          m (omega (arith, held_rows b₂))

      pub settle_ready : Ready g (lent e b₂) × ((f.to < q.held → (In f.to (queue_of q) → ⊥) × (q.counter < last_counter))
          × ((f.from < q.held) × (length to ≤ max_path) × (length (registered (dirs_of l.bufs.dirs q.dirs) to) ≤ q.chosen.dir_rows)))
      unfolding view
      settle_ready =
          let d : dirs_of l.bufs.dirs q.dirs ≡ dirs_in l.bufs = after.dirs in
          let p : q.chosen.dir_rows ≡ l.bufs.pool.chosen.dir_rows = ap (λ (x : Chosen). x.dir_rows) after.chosen in
          (ready₂.1, (to_goes, (omega (arith, from_held, held_after_lem), goes.short, rw (d, p) made)))

      pub rename_done : e.place.last ≡ 0 → (len : ℕ) → len ≡ len_of (at (rows_in l.bufs) f.from) → (x : Outcome None Lent)
          → x ≡ flat_o (settled_m plan g f.from f.to to l.bufs.pool.counter len (view_w (lent e b₂))) → x ≡ flat_o (rename_m plan g from to (view_w l))
      unfolding rename_m renamed_m view_w view
      rename_done z len el x k =
          let o : fine_m w₁.dev ≡ true = sym (ap fine_m at_dev) ∙ eq-eqb e.place.last 0 z in
          let c = l.bufs.pool.counter in
          rw (going, o)
          (k ∙ ap (λ (y : World). flat_o (settled_m plan g f.from f.to to c len y)) ready₂.0
          ∙ ap (λ (n : ℕ). flat_o (settled_m plan g f.from f.to to c n w₁)) el
          ∙ ap (λ (y : Course). flat_o (settled_m plan g y.from y.to to c (len_of (at (rows_in l.bufs) y.from)) w₁)) ef)
