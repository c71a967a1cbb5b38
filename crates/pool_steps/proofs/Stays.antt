-- A pool with its device stays one: what the steps keep, and what they leave as it was.
use Prim.Native.Nat.{ℕ, ◌+◌, ◌<◌}
use native.Mathlib.Omega.{arith}
use mathlib.Core.Path.{◌≡◌, refl, sym, ap, ap₂, ◌∙◌, subst}
use mathlib.Core.Logic.{◌≢◌}
use mathlib.Core.Bool.{Bool, true, false, cond}
use mathlib.Core.List.{List, [], ◌∷◌, ◌++◌}
use lib.Dec.{lit≤}
use lib.ListN.{length, set, length-set}
use lib.Seq.{get_or-set_same, get_or-set_other}
use Rattle.limits.specs.Limits.{last_counter}
use Rattle.lists.specs.Distinct.{In}
use Rattle.header.specs.Block.{free_header}
use Rattle.header.proofs.BlockLaws.{length_encoded}
use Rattle.device.specs.declared.Geometry.{Geometry}
use Rattle.device.specs.Device.{Dev, Shape, flush_m, header_write_m, data_truncate_m}
use Rattle.device.specs.AnyDevice.{Call, header, flush, truncate, slot_of}
use Rattle.device.specs.Calls.{call_m}
use Rattle.device.proofs.CallByCall.{call_shape, call_slots}
use Rattle.slot_rows.specs.Rows.{Row, unbound, none, at, is_bound, resized, cleaned, len_of}
use Rattle.slot_rows.proofs.InBuffers.{length_rows}
use Rattle.pool_state.specs.State.{State, Valid, Bufs, view, pool_of, flat, IsPool}
use Rattle.pool_state.specs.Queue.{queued, spent}
use Rattle.pool_state.specs.Changes.{with_row, with_row_valid, unbound_admitted, resized_admitted}
use Rattle.pool_state.specs.InBuffers.{is_pool_lem, queued_valid, spent_valid}
use Rattle.pool_steps.specs.World.{World, world, Lent, lent, view_w, flat_w, Fit, Ready}
use Rattle.pool_steps.specs.Steps.{fine_m, and_then, put_m, free_block, free_m, unbinds, released, release_m, row_block, sync_row_m}

-- ---- a pool with its device, and its buffers

-- Buffers that hold a fit pool with its device are ready, and that is their view.
pub world_is : (g : Geometry) (w : World) (l : Lent) → Fit g w → l ≡ flat_w w → (view_w l ≡ w) × Ready g l
unfolding view_w flat_w flat pool_of
world_is g w l f e =
    let d : l.dev ≡ w.dev = ap (λ (x : Lent). x.dev) e in
    let b : l.bufs ≡ flat w.state = ap (λ (x : Lent). x.bufs) e in
    let n : l.bufs.pool.held ≡ length w.state.rows = ap (λ (x : Bufs). x.pool.held) b in
    let k : length l.dev.phys ≡ length w.dev.phys = ap (λ (x : Dev). length x.phys) d in
    let p = is_pool_lem w.state l.bufs f.valid b in (
      ap₂ world d p.0,
      record { pool = p.1; shape = subst (λ (x : Dev). Shape g x.bytes x.phys) (sym d) f.shape; slots = omega (arith, f.slots) },
    )

-- And the view of buffers that are ready is fit.
pub ready_fit : (g : Geometry) (l : Lent) → Ready g l → Fit g (view_w l)
unfolding view_w view
ready_fit g l r =
    record { valid = r.pool.valid; shape = r.shape; slots = omega (arith, r.slots, length_rows l.bufs.nums l.bufs.names l.bufs.pool.held) }

-- Two steps in a row: what the second makes of its view, it makes of what the first came to.
pub chain_worlds : {A : Type 0} (g : Geometry) (w : World) (l : Lent) (a : A) (f : World → A) → Fit g w → l ≡ flat_w w → a ≡ f (view_w l) → a ≡ f w
chain_worlds g w l a f k e h = h ∙ ap f (world_is g w l k e).0

-- A refusal: the buffers stay.
pub lent_stays : (l : Lent) → IsPool l.bufs → l ≡ flat_w (view_w l)
unfolding view_w flat_w
lent_stays l p = ap (lent l.dev) (sym p.canon)

-- ---- the device

-- It has its shape and as many slots as before.
pub record Kept (g : Geometry) (d e : Dev) : Type 0 where
  pub shape : Shape g e.bytes e.phys
  pub slots : length e.phys ≡ length d.phys

-- What a call leaves true, stopped or not.
pub then_keeps : (P : Dev → Type 0) (d : Dev) (next : Dev → Dev) → P d → P (next d) → P (and_then d next)
then_keeps P d next p q = go (fine_m d)
  where
    go : (t : Bool) → P (cond t (next d) d)
    go true = q
    go false = p

module _ (plan : List ℕ) (g : Geometry) where
  pub call_kept : (c : Call) (d e : Dev) → Kept g d e → slot_of c < length d.phys → Kept g d (call_m plan g c e)
  call_kept c d e k r = record { shape = call_shape plan g e c k.shape (omega (arith, k.slots)); slots = call_slots plan g e c ∙ k.slots }

  module _ (i : ℕ) (d : Dev) (s : Shape g d.bytes d.phys) (r : i < length d.phys) where
    pub put_kept : (block : List ℕ) → Kept g d (put_m plan g i block d)
    unfolding put_m
    put_kept block =
        let w : Kept g d (header_write_m plan g i block d) = call_kept (header i block) d d (record { shape = s; slots = refl }) r in
        then_keeps (Kept g d) (header_write_m plan g i block d) (flush_m plan) w (call_kept (flush i) d (header_write_m plan g i block d) w r)

    pub free_kept : (generation : ℕ) → Kept g d (free_m plan g i generation d)
    unfolding free_m
    free_kept generation =
        let p = put_kept (free_block generation) in
        let e = put_m plan g i (free_block generation) d in
        then_keeps (Kept g d) e (data_truncate_m plan g i 0) p (call_kept (truncate i 0) d e p r)

-- A free header's block has 512 bytes.
pub length_free : (generation : ℕ) → length (free_block generation) ≡ 512
length_free generation = length_encoded (free_header generation) [] (lit≤ tt)

-- ---- a release

pub unbinds_valid : (s : State) (i : ℕ) → Valid s → i < length s.rows → s.counter < last_counter → Valid (unbinds i s)
unfolding unbinds with_row spent
unbinds_valid s i ok h c = with_row_valid (spent s) i (unbound s.counter) (spent_valid s ok c) h (unbound_admitted (spent s) i s.counter (omega arith))

pub released_valid : (s : State) (i : ℕ) (fine : Bool) → Valid s → i < length s.rows → (In i s.queue → ⊥) → s.counter < last_counter → Valid (released i fine s)
unfolding released unbinds with_row spent is_bound
released_valid s i false ok h n c = unbinds_valid s i ok h c
released_valid s i true ok h n c =
    let r = unbound s.counter in
    queued_valid (unbinds i s) (unbinds_valid s i ok h c) i (rw (length-set s.rows i r) h) (ap is_bound (get_or-set_same s.rows i r none h)) n

module _ (plan : List ℕ) (g : Geometry) (i : ℕ) (w : World) where
  abbrev s : State
  s = w.state

  abbrev freed : Dev
  freed = free_m plan g i s.counter w.dev

  -- What a release makes of the pool: the queue alone says whether it was stopped.
  abbrev after : Bool → State
  after fine =
      record {
        chosen = s.chosen;
        rows = set s.rows i (unbound s.counter);
        dirs = s.dirs;
        queue = cond fine (s.queue ++ (i ∷ [])) s.queue;
        counter = s.counter + 1;
      }

  pub release_is : (release_m plan g i w).state ≡ after (fine_m freed)
  unfolding release_m released queued unbinds with_row spent
  release_is = go (fine_m freed)
    where
      go : (t : Bool) → released i t s ≡ after t
      go true = refl
      go false = refl

  -- The slot's row,
  pub release_row : i < length s.rows → at (release_m plan g i w).state.rows i ≡ unbound s.counter
  release_row h = ap (λ (x : State). at x.rows i) release_is ∙ get_or-set_same s.rows i (unbound s.counter) none h

  -- and every other.
  pub release_other : (j : ℕ) → j ≢ i → at (release_m plan g i w).state.rows j ≡ at s.rows j
  release_other j n = ap (λ (x : State). at x.rows j) release_is ∙ get_or-set_other s.rows i j (unbound s.counter) none n

  -- "a pool stays a pool", whatever failed.
  pub release_valid : Valid s → i < length s.rows → (In i s.queue → ⊥) → s.counter < last_counter → Valid (release_m plan g i w).state
  unfolding release_m
  release_valid ok h n c = released_valid s i (fine_m freed) ok h n c

  pub release_fit : Fit g w → i < length s.rows → (In i s.queue → ⊥) → s.counter < last_counter → Fit g (release_m plan g i w)
  unfolding release_m
  release_fit f h n c =
      let k = free_kept plan g i w.dev f.shape (omega (arith, f.slots)) s.counter in
      let m : length (release_m plan g i w).state.rows ≡ length s.rows = ap (λ (x : State). length x.rows) release_is ∙ length-set s.rows i (unbound s.counter) in
      record { valid = release_valid f.valid h n c; shape = k.shape; slots = omega (arith, k.slots, f.slots) }

  -- ---- the sync of a row

  abbrev row : Row
  row = at s.rows i

  abbrev put : Dev
  put = put_m plan g i (row_block row) w.dev

  abbrev clean_state : Bool → State
  clean_state t = cond t (with_row i (cleaned row) s) s

  pub sync_row_valid : Valid s → i < length s.rows → Valid (sync_row_m plan g i w).state
  unfolding sync_row_m cleaned
  sync_row_valid ok h = go (fine_m put)
    where
      go : (t : Bool) → Valid (clean_state t)
      go true = with_row_valid s i (resized (len_of row) false row) ok h (resized_admitted s i (len_of row) false ok)
      go false = ok

  pub sync_row_fit : Fit g w → i < length s.rows → Fit g (sync_row_m plan g i w)
  unfolding sync_row_m with_row
  sync_row_fit f h =
      let k = put_kept plan g i w.dev f.shape (omega (arith, f.slots)) (row_block row) in
      record { valid = sync_row_valid f.valid h; shape = k.shape; slots = omega (arith, k.slots, f.slots, go (fine_m put)) }
    where
      go : (t : Bool) → length (clean_state t).rows ≡ length s.rows
      go true = length-set s.rows i (cleaned row)
      go false = refl
