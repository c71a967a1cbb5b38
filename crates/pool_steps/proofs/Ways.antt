-- The ways out of the steps, over plain values: each takes the callees' contracts and gives the equation of one exit.
use Prim.Native.Nat.{ℕ, ◌≤◌, ◌<◌}
use native.Mathlib.Omega.{arith}
use mathlib.Core.Path.{◌≡◌, sym, ap, ap₂, ◌∙◌}
use mathlib.Core.Bool.{Bool, true, false}
use mathlib.Core.List.{List}
use lib.ListN.{length, set}
use borrow.Author.Tests.{eq-eqb, ne_eqb}
use Rattle.limits.specs.Limits.{max_path}
use Rattle.lists.specs.Distinct.{In}
use Rattle.header.specs.declared.Header.{Header}
use Rattle.header.specs.Block.{free_header, bound_header, encoded}
use Rattle.device.specs.declared.Place.{Place}
use Rattle.device.specs.declared.Geometry.{Geometry}
use Rattle.device.specs.Device.{Dev, dev, Shape, data_truncate_m}
use Rattle.device_lent.proofs.Ways.{then_stopped, then_goes}
use Rattle.slot_rows.specs.Rows.{Row, unbound, at, path_of, len_of, gen_of, cleaned, rows_of, Flat}
use Rattle.slot_rows.proofs.InBuffers.{length_rows}
use Rattle.pool_state.specs.declared.Pool.{Pool}
use Rattle.pool_state.specs.State.{Bufs, bufs, queue_of, view, pool_of, flat}
use Rattle.pool_state.specs.Queue.{spent, pushed, ticked}
use Rattle.pool_state.specs.Changes.{with_row, row_flat}
use Rattle.pool_state.specs.InBuffers.{pool_canon, pool_rows, queue_room, push_flat, spend_flat}
use Rattle.pool_steps.specs.World.{Lent, lent, view_w, flat_w, Ready}
use Rattle.pool_steps.specs.Steps.{fine_m, put_m, free_block, free_m, unbinds, released, release_m, row_header, row_block, sync_row_m}

-- ---- on the device

-- what the device calls on a held slot need
pub on_device : (g : Geometry) (l : Lent) (i : ℕ) → Ready g l → i < l.bufs.pool.held → Shape g l.dev.bytes l.dev.phys × (i < length l.dev.phys)
on_device g l i R h = (R.shape, omega (arith, R.slots))

module _ (plan : List ℕ) (g : Geometry) (i : ℕ) (d : Dev) (b h : List ℕ) (p : Place) where
  module _ (generation : ℕ) (x : List ℕ) (same : x ≡ free_block generation) (w : dev b h p ≡ put_m plan g i x d) where
    put : dev b h p ≡ put_m plan g i (free_block generation) d
    put = w ∙ ap (λ (z : List ℕ). put_m plan g i z d) same

    pub free_stopped : (p.last ≡ 0 → ⊥) → dev b h p ≡ free_m plan g i generation d
    unfolding free_m
    free_stopped ne = then_stopped (put_m plan g i (free_block generation) d) (dev b h p) (data_truncate_m plan g i 0) put ne

    pub free_done : (a : Dev) → p.last ≡ 0 → a ≡ data_truncate_m plan g i 0 (dev b h p) → a ≡ free_m plan g i generation d
    unfolding free_m
    free_done a z f = then_goes (put_m plan g i (free_block generation) d) (dev b h p) a (data_truncate_m plan g i 0) put z f

-- a free header has no path
pub free_path : (generation : ℕ) (x : Header) → x ≡ free_header generation → (0 ≡ x.path_len) × (x.path_len ≤ max_path)
free_path generation x e =
    let k : x.path_len ≡ 0 = ap (λ (y : Header). y.path_len) e in
    (sym k, omega arith)

-- ---- a release

module _ (g : Geometry) (l : Lent) (R : Ready g l) (i : ℕ) (h : i < l.bufs.pool.held) (n : In i (queue_of l.bufs.pool) → ⊥) where
  abbrev b : Bufs
  b = l.bufs

  few : length (view b).queue < 64
  unfolding view
  few = queue_room (view b) i R.pool.valid (omega (arith, length_rows b.nums b.names b.pool.held)) n

  -- there is room in the queue
  pub room : (q : Pool) → q ≡ ticked b.pool → (q.free < 64) × (i < 64)
  unfolding ticked pool_of view
  room q e =
      let f : q.free ≡ b.pool.free = ap (λ (x : Pool). x.free) e in
      let k : length (queue_of b.pool) ≡ b.pool.free = ap (λ (x : Pool). x.free) (pool_canon b R.pool) in
      (omega (arith, few), omega (arith, R.pool.valid.counts.few, R.pool.valid.counts.small, length_rows b.nums b.names b.pool.held))

  module _ (plan l₁ n₁ : List ℕ) (e : rows_of l₁ n₁ b.pool.held ≡ set (rows_of b.nums b.names b.pool.held) i (unbound b.pool.counter))
      (F : Flat b.pool.chosen.rows b.pool.held l₁ n₁) (q : Pool) (t : q ≡ ticked b.pool)
      (d : Dev) (f : d ≡ free_m plan g i b.pool.counter l.dev) where
    unbound_flat : bufs q l₁ n₁ b.dirs ≡ flat (unbinds i (view b))
    unfolding unbinds view
    unbound_flat =
        let r = unbound b.pool.counter in
        ap (λ (x : Pool). bufs x l₁ n₁ b.dirs) t
        ∙ spend_flat (with_row i r (view b)) (bufs b.pool l₁ n₁ b.dirs) (row_flat b R.pool i r l₁ n₁ e F)

    done_as : (x : Bool) (u : Bufs) → fine_m d ≡ x → u ≡ flat (released i x (view b)) → lent d u ≡ flat_w (release_m plan g i (view_w l))
    unfolding release_m flat_w view_w view
    done_as x u k v = ap₂ lent f (v ∙ ap (λ (y : Bool). flat (released i y (view b))) (sym k ∙ ap fine_m f))

    pub release_stopped : (d.place.last ≡ 0 → ⊥) → lent d (bufs q l₁ n₁ b.dirs) ≡ flat_w (release_m plan g i (view_w l))
    unfolding released
    release_stopped ne = done_as false (bufs q l₁ n₁ b.dirs) (ne_eqb _ _ ne) unbound_flat

    pub release_done : (p : Pool) → d.place.last ≡ 0 → p ≡ pushed i q → lent d (bufs p l₁ n₁ b.dirs) ≡ flat_w (release_m plan g i (view_w l))
    unfolding released unbinds spent with_row
    release_done p z k =
        done_as true (bufs p l₁ n₁ b.dirs) (eq-eqb _ _ z)
        (ap (λ (x : Pool). bufs x l₁ n₁ b.dirs) k ∙ push_flat (unbinds i (view b)) (bufs q l₁ n₁ b.dirs) unbound_flat i few)

-- ---- the sync of a row

pub row_header_is : (r : Row) (x : Header) (k n m : ℕ) → k ≡ length (path_of r) → n ≡ len_of r → m ≡ gen_of r → x ≡ bound_header k n m → x ≡ row_header r
unfolding row_header
row_header_is r x k n m a b c e = e ∙ rw (a, b, c)

header_path : (r : Row) (x : Header) → x ≡ row_header r → x.path_len ≡ length (path_of r)
unfolding row_header
header_path r x e = ap (λ (y : Header). y.path_len) e

-- a row's header goes with its path
pub header_fits : (g : Geometry) (l : Lent) (R : Ready g l) (i : ℕ) (x : Header) (p : List ℕ)
    → x ≡ row_header (at (rows_of l.bufs.nums l.bufs.names l.bufs.pool.held) i)
    → p ≡ path_of (at (rows_of l.bufs.nums l.bufs.names l.bufs.pool.held) i)
    → (length p ≡ x.path_len) × (x.path_len ≤ max_path)
header_fits g l R i x p e f =
    let b = l.bufs in
    let k = header_path (at (rows_of b.nums b.names b.pool.held) i) x e in
    (ap length f ∙ sym k, omega (arith, (pool_rows b R.pool).short i))

module _ (g : Geometry) (l : Lent) (R : Ready g l) (i : ℕ) (plan : List ℕ) (d : Dev) (x : Header) (p : List ℕ)
    (hx : x ≡ row_header (at (rows_of l.bufs.nums l.bufs.names l.bufs.pool.held) i))
    (hp : p ≡ path_of (at (rows_of l.bufs.nums l.bufs.names l.bufs.pool.held) i))
    (w : d ≡ put_m plan g i (encoded x p) l.dev) where
  abbrev c : Bufs
  c = l.bufs

  abbrev row : Row
  row = at (rows_of c.nums c.names c.pool.held) i

  f : d ≡ put_m plan g i (row_block row) l.dev
  f = w ∙ ap (λ (z : List ℕ). put_m plan g i z l.dev) (ap₂ encoded hx hp)

  pub sync_stopped : (d.place.last ≡ 0 → ⊥) → lent d c ≡ flat_w (sync_row_m plan g i (view_w l))
  unfolding sync_row_m flat_w view_w view
  sync_stopped ne =
      let k : fine_m (put_m plan g i (row_block row) l.dev) ≡ false = sym (ap fine_m f) ∙ ne_eqb _ _ ne in
      rw k (ap₂ lent f (sym R.pool.canon))

  pub sync_done : (l₁ : List ℕ) → rows_of l₁ c.names c.pool.held ≡ set (rows_of c.nums c.names c.pool.held) i (cleaned row)
      → Flat c.pool.chosen.rows c.pool.held l₁ c.names → d.place.last ≡ 0
      → lent d (bufs c.pool l₁ c.names c.dirs) ≡ flat_w (sync_row_m plan g i (view_w l))
  unfolding sync_row_m flat_w view_w view
  sync_done l₁ e F z =
      let k : fine_m (put_m plan g i (row_block row) l.dev) ≡ true = sym (ap fine_m f) ∙ eq-eqb _ _ z in
      rw k (ap₂ lent f (row_flat c R.pool i (cleaned row) l₁ c.names e F))
