-- The ways out of the calls on a handle, over plain values: each takes the callees' contracts and gives the equation of one exit.
use Prim.Native.Nat.{ℕ, ◌+◌, ◌-◌, ◌/◌, ◌≤◌, ◌<◌, min, max}
use native.Mathlib.Omega.{arith}
use mathlib.Core.Path.{◌≡◌, refl, sym, ap, ap₂, ◌∙◌}
use mathlib.Core.Bool.{Bool, true, false, cond}
use mathlib.Core.List.{List, ◌++◌}
use lib.Dec.{eqb, ltb, leb}
use lib.ListN.{length, set, take, drop}
use borrow.Author.Tests.{eq-eqb, ne_eqb, le-leb, lt-leb, ltb-false}
use Rattle.device.specs.declared.Place.{Place}
use Rattle.device.specs.declared.Geometry.{Geometry}
use Rattle.device.specs.declared.Got.{Got}
use Rattle.device.specs.Device.{Dev, dev, Shape, Read, read, turn, onward, share, short, stores, flushed, flush_m, write_m, data_read_m, data_write_m, data_truncate_m}
use Rattle.device.specs.Device as Device
use Rattle.slot_rows.specs.Rows.{Row, at, is_bound, len_of, is_dirty, resized, rows_of, Flat}
use Rattle.slot_rows.proofs.InBuffers.{length_rows}
use Rattle.pool_state.specs.State.{Bufs, bufs, view, IsPool}
use Rattle.pool_state.specs.Changes.{row_flat}
use Rattle.pool_steps.specs.World.{World, Lent, lent, view_w, flat_w, Ready}
use Rattle.pool_steps.specs.Steps.{fine_m, sync_row_m}
use Rattle.pool_steps.specs.Outcome.{Outcome, outcome, flat_o, None, by_device}
use Rattle.inner_handle.specs.Handles.{is_live, on_handle, file_len_m, filling, read_part, resized_m, write_at_m, set_len_m, sync_m}
use Rattle.inner_handle.proofs.Stays.{live_means, stays}

-- ---- a live handle

-- the rows of the buffers
abbrev pub rows_in : Bufs → List Row
rows_in b = rows_of b.nums b.names b.pool.held

-- a live handle's slot is held, and its row bound
pub live_row : (l m : List ℕ) (n slot generation : ℕ) → is_live slot generation (rows_of l m n) ≡ true → (slot < n) × (is_bound (at (rows_of l m n) slot) ≡ true)
live_row l m n slot generation e =
    let k = live_means slot generation (rows_of l m n) e in
    (omega (arith, k.0, length_rows l m n), k.1)

-- what the device calls on its slot need
pub live_device : (g : Geometry) (l : Lent) → Ready g l → (slot generation : ℕ) → is_live slot generation (rows_in l.bufs) ≡ true
    → Shape g l.dev.bytes l.dev.phys × (slot < length l.dev.phys)
live_device g l R slot generation e = (R.shape, omega (arith, R.slots, (live_row l.bufs.nums l.bufs.names l.bufs.pool.held slot generation e).0))

-- ---- 6, or the call

module _ {R : Type 0} (slot generation : ℕ) (zeros : R) (l : Lent) (o : Outcome R World) where
  pub stale : IsPool l.bufs → is_live slot generation (rows_in l.bufs) ≡ false → outcome 6 zeros l ≡ flat_o (on_handle slot generation zeros (view_w l) o)
  unfolding view_w view
  stale p e = rw e (stays 6 zeros l p)

  pub goes : (x : Outcome R Lent) → is_live slot generation (rows_in l.bufs) ≡ true → x ≡ flat_o o → x ≡ flat_o (on_handle slot generation zeros (view_w l) o)
  unfolding view_w view
  goes x e q = rw e q

-- ---- file_len

module _ (slot generation : ℕ) (b : Bufs) where
  pub len_live : (n : ℕ) → is_live slot generation (rows_in b) ≡ true → n ≡ len_of (at (rows_in b) slot) → record { out = 0; len = n } ≡ file_len_m slot generation (view b)
  unfolding file_len_m view
  len_live n e q = rw (e, q)

  pub len_stale : is_live slot generation (rows_in b) ≡ false → record { out = 6; len = 0 } ≡ file_len_m slot generation (view b)
  unfolding file_len_m view
  len_stale e = rw e

-- ---- read_at

module _ (plan : List ℕ) (g : Geometry) (slot pos : ℕ) (buf : List ℕ) (l : Lent) (P : IsPool l.bufs) (len : ℕ) (h : len ≡ len_of (at (rows_in l.bufs) slot)) where
  -- at or past the length
  pub read_none : len ≤ pos
      → outcome 0 (filling 0 buf) l ≡ flat_o (cond (leb (len_of (at (view_w l).state.rows slot)) pos) (outcome 0 (filling 0 buf) (view_w l)) (read_part plan g slot pos buf (view_w l)))
  unfolding view_w view
  read_none k =
      let z : leb (len_of (at (rows_in l.bufs) slot)) pos ≡ true = le-leb (len_of (at (rows_in l.bufs) slot)) pos (omega arith) in
      rw z (stays 0 (filling 0 buf) l P)

  -- before it
  pub read_some : pos < len → (want : ℕ) → want ≡ min (length buf) (len - pos) → (r : Got) (out : List ℕ) → read out r ≡ data_read_m plan g slot pos (take want buf) l.dev
      → outcome r.place.last (filling r.count (out ++ drop want buf)) (lent (dev l.dev.bytes l.dev.phys r.place) l.bufs)
      ≡ flat_o (cond (leb (len_of (at (view_w l).state.rows slot)) pos) (outcome 0 (filling 0 buf) (view_w l)) (read_part plan g slot pos buf (view_w l)))
  unfolding view_w view read_part flat_o flat_w
  read_some k want e r out q =
      let z : leb (len_of (at (rows_in l.bufs) slot)) pos ≡ false = lt-leb (len_of (at (rows_in l.bufs) slot)) pos (omega arith) in
      let w : want ≡ min (length buf) (len_of (at (rows_in l.bufs) slot) - pos) = rw h at e in
      let d = data_read_m plan g slot pos (take want buf) l.dev in
      rw (z, ← w)
      (ap (λ (x : Read). outcome x.got.place.last (filling x.got.count (x.dst ++ drop want buf)) (lent (dev l.dev.bytes l.dev.phys x.got.place) l.bufs)) q
      ∙ ap (λ (b : Bufs). outcome d.got.place.last (filling d.got.count (d.dst ++ drop want buf)) (lent (dev l.dev.bytes l.dev.phys d.got.place) b)) (sym P.canon))

-- ---- write_at, set_len

share_few : (byte n : ℕ) → share byte n ≤ n
unfolding share
share_few byte n = go (eqb byte 2)
  where
    go : (t : Bool) → cond t (n / 2) n ≤ n
    go true = omega arith
    go false = omega arith

not_short : (n asked : ℕ) → short n asked ≡ 0 → asked ≤ n
unfolding short
not_short n asked z = go (ltb n asked) refl z
  where
    go : (t : Bool) → ltb n asked ≡ t → ◌≡◌ {A = ℕ} (cond t 11 0) 0 → asked ≤ n
    go true e o = absurd (omega arith)
    go false e o = ltb-false n asked e

-- a write that was done lies in its slot
pub write_inside : (plan : List ℕ) (g : Geometry) (slot pos : ℕ) (src : List ℕ) (d e : Dev) → e ≡ data_write_m plan g slot pos src d → e.place.last ≡ 0 → 512 + pos + length src ≤ g.size
unfolding data_write_m write_m onward stores
write_inside plan g slot pos src d e q z =
    go (eqb (turn plan d.place) 1) (ltb g.size (512 + pos)) refl (Device.stored g slot (512 + pos) (take n src) d) (sym (ap (λ (x : Dev). x.place.last) q) ∙ z)
  where
    n : ℕ
    n = share (turn plan d.place) (min (length src) (g.size - (512 + pos)))

    go : (a b : Bool) → ltb g.size (512 + pos) ≡ b → (x : Dev) → (cond a (Device.noted plan 10 d) (cond b (Device.noted plan 10 d) (Device.noted plan (short n (length src)) x))).place.last ≡ 0
        → 512 + pos + length src ≤ g.size
    go true b t x o = absurd (omega arith)
    go false true t x o = absurd (omega arith)
    go false false t x o =
        omega (arith, ltb-false g.size (512 + pos) t, not_short n (length src) o, share_few (turn plan d.place) (min (length src) (g.size - (512 + pos))))

module _ (g : Geometry) (l : Lent) (R : Ready g l) (i n : ℕ) (e d : Dev) (q : e ≡ d) where
  abbrev b : Bufs
  b = l.bufs

  abbrev row : Row
  row = resized n true (at (rows_in b) i)

  -- the device call was not done: no row changes
  pub resize_stopped : (e.place.last ≡ 0 → ⊥) → outcome e.place.last tt (lent e b) ≡ flat_o (by_device (resized_m d i n (view b)))
  unfolding resized_m flat_o flat_w
  resize_stopped ne =
      let k : fine_m e ≡ false = ne_eqb _ _ ne in
      let o : lent e b ≡ flat_w (resized_m e i n (view b)) = rw k (ap (lent e) (sym R.pool.canon)) in
      ap (outcome e.place.last tt) o ∙ ap (λ (x : Dev). flat_o (by_device (resized_m x i n (view b)))) q

  -- it was
  pub resize_done : e.place.last ≡ 0 → (l₁ : List ℕ)
      → rows_of l₁ b.names b.pool.held ≡ set (rows_in b) i row → Flat b.pool.chosen.rows b.pool.held l₁ b.names
      → outcome 0 tt (lent e (bufs b.pool l₁ b.names b.dirs)) ≡ flat_o (by_device (resized_m d i n (view b)))
  unfolding resized_m flat_o flat_w view
  resize_done z l₁ s F =
      let k : fine_m e ≡ true = eq-eqb _ _ z in
      let o : lent e (bufs b.pool l₁ b.names b.dirs) ≡ flat_w (resized_m e i n (view b)) = rw k (ap (lent e) (row_flat b R.pool i row l₁ b.names s F)) in
      ap₂ (λ (y : ℕ) (m : Lent). outcome y tt m) (sym z) o ∙ ap (λ (y : Dev). flat_o (by_device (resized_m y i n (view b)))) q

module _ (plan : List ℕ) (g : Geometry) (slot generation : ℕ) (l : Lent) (live : is_live slot generation (rows_in l.bufs) ≡ true) (x : Outcome None Lent) where
  pub write_at_is : (pos : ℕ) (src : List ℕ) (len n : ℕ) → len ≡ len_of (at (rows_in l.bufs) slot) → n ≡ max len (pos + length src)
      → x ≡ flat_o (by_device (resized_m (data_write_m plan g slot pos src l.dev) slot n (view l.bufs))) → x ≡ flat_o (write_at_m plan g slot generation pos src (view_w l))
  unfolding write_at_m view_w view
  write_at_is pos src len n k e q = rw live (q ∙ ap (λ (m : ℕ). flat_o (by_device (resized_m (data_write_m plan g slot pos src l.dev) slot m (view l.bufs)))) (rw k at e))

  pub set_len_is : (len : ℕ) → x ≡ flat_o (by_device (resized_m (data_truncate_m plan g slot len l.dev) slot len (view l.bufs))) → x ≡ flat_o (set_len_m plan g slot generation len (view_w l))
  unfolding set_len_m view_w view
  set_len_is len q = rw live q

-- ---- sync

module _ (plan : List ℕ) (g : Geometry) (slot generation : ℕ) (l : Lent) (live : is_live slot generation (rows_in l.bufs) ≡ true) where
  pub sync_dirty : is_dirty (at (rows_in l.bufs) slot) ≡ true → (d : Dev) (b : Bufs) → lent d b ≡ flat_w (sync_row_m plan g slot (view_w l))
      → outcome d.place.last tt (lent d b) ≡ flat_o (sync_m plan g slot generation (view_w l))
  unfolding sync_m view_w view flat_o flat_w
  sync_dirty e d b q = rw (live, e) (ap (λ (y : Lent). outcome y.dev.place.last tt y) q)

  pub sync_clean : IsPool l.bufs → is_dirty (at (rows_in l.bufs) slot) ≡ false → (p : Place) → p ≡ flushed plan l.dev.place
      → outcome p.last tt (lent (dev l.dev.bytes l.dev.phys p) l.bufs) ≡ flat_o (sync_m plan g slot generation (view_w l))
  unfolding sync_m view_w view flat_o flat_w flush_m
  sync_clean P e p q =
      let f = flushed plan l.dev.place in
      rw (live, e)
      (ap (λ (y : Place). outcome y.last tt (lent (dev l.dev.bytes l.dev.phys y) l.bufs)) q
      ∙ ap (λ (b : Bufs). outcome f.last tt (lent (dev l.dev.bytes l.dev.phys f) b)) (sym P.canon))
