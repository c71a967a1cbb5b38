-- `FaceIsFlat` and `FaceDecides` of specs/Face.antt, and a mount and an adoption through the face. The face's contract is the flat call's
-- up to the lent place, which is the reply's; the rest follows from it, and from what is proved of the inner calls.
use Prim.Native.Nat.{ℕ, ◌*◌, ◌≤◌}
use native.Mathlib.Omega.{arith}
use mathlib.Core.Path.{◌≡◌, refl, sym, ap, ap₂, ◌∙◌}
use mathlib.Core.Bool.{true}
use mathlib.Core.List.{List}
use lib.ListN.{length}
use borrow.Author.Tests.{eq-eqb, le-leb}
use Rattle.limits.specs.Limits.{row_width}
use Rattle.device.specs.declared.Place.{Place}
use Rattle.device.specs.declared.Geometry.{Geometry}
use Rattle.device.specs.Device.{Dev, dev, Shape}
use Rattle.device.proofs.Shapes.{shape_means}
use Rattle.slot_records.specs.declared.Slot.{Slot}
use Rattle.slot_records.specs.Records.{nums_of, slots_of}
use Rattle.slot_records.specs.SameNumbers.{slots_nums, length_nums}
use Rattle.pool_state.specs.declared.Chosen.{Chosen}
use Rattle.pool_state.specs.State.{bufs, choosing}
use Rattle.pool_steps.specs.World.{World, Lent, lent, view_w, flat_w, Fit, Ready}
use Rattle.pool_steps.proofs.Stays.{world_is}
use Rattle.pool_steps.specs.Outcome.{Outcome, None, only, flat_o}
use Rattle.mount.specs.Mount.{mounted, mount_m, adopt_m}
use Rattle.calls_gate.specs.declared.Call.{Call}
use Rattle.calls_gate.specs.declared.Call.TheVariants.{Mount, Adopt}
use Rattle.calls_gate.specs.Table.{takes_of, slot_rows, dir_rows, rows_b, text_if}
use Rattle.calls_gate.specs.Replies.{Came, came}
use Rattle.calls_gate.specs.Calls.{inner_m, call_p}
use Rattle.calls_gate.specs.Promises.{End}
use Rattle.calls_gate.proofs.Promises.{one_outcome}
use Rattle.pool.specs.Face.{Asked, Left, lent_of, Entered}
use Rattle.promises.specs.Face.{number, dev_of, left_of, held, came_of, FaceIsFlat, FaceDecides, Lending, asking, ask_next}
use Rattle.calls_gate.proofs.Inward.{on_pool, mount_call}
use Rattle.promises.proofs.Mounting.{both_fine}

-- ---- the lent place is the reply's

-- an end with this place for the lent one
abbrev flat_at_lem : Left → Place → Came
flat_at_lem y p =
    let b = bufs y.reply.pool (nums_of y.rows) y.names y.dirs in
    came (number y) y.reply.told (lent (dev y.bytes y.phys p) b) y.buf

pub face_is_flat : FaceIsFlat
unfolding FaceIsFlat
face_is_flat x y e = ap (flat_at_lem y) e.1 ∙ e.0

-- the same where the call is known
pub as_call : (x : Asked) (y : Left) (c : Call) → Entered x y → x.call ≡ c
    → came_of y ≡ call_p x.plan x.geometry c x.first x.second x.buf (lent_of x)
unfolding FaceIsFlat
as_call x y c e k = face_is_flat x y e ∙ ap (λ (a : Call). call_p x.plan x.geometry a x.first x.second x.buf (lent_of x)) k

-- ---- two ends are the same

-- an end, as the flat call's
abbrev end : Left → End
end y = record { answer = y.reply.answer; told = y.reply.told; left = (flat_at_lem y y.reply.place).left; buf = y.buf }

-- and read back from it
abbrev back : End → Left
back e = record {
  reply = record { answer = e.answer; told = e.told; place = e.left.dev.place; pool = e.left.bufs.pool };
  bytes = e.left.dev.bytes;
  phys = e.left.dev.phys;
  at = e.left.dev.place;
  rows = slots_of e.left.bufs.nums;
  names = e.left.bufs.names;
  dirs = e.left.bufs.dirs;
  buf = e.buf;
}

back_end : (y : Left) → y.at ≡ y.reply.place → back (end y) ≡ y
back_end y e =
    let with_rows : Place → List Slot → Left = λ p r. record {
      reply = y.reply;
      bytes = y.bytes;
      phys = y.phys;
      at = p;
      rows = r;
      names = y.names;
      dirs = y.dirs;
      buf = y.buf;
    } in
    ap₂ with_rows (sym e) (slots_nums y.rows)

pub face_decides : FaceDecides
unfolding FaceDecides
face_decides x y z e f =
    sym (back_end y e.1)
    ∙ ap back (one_outcome x.plan x.geometry x.call x.first x.second x.buf (lent_of x) (end y) (end z) e.0 f.0)
    ∙ back_end z f.1

-- ---- a mount and an adoption

-- they tell nothing but their number
abbrev settled : Came → Outcome None Lent
settled c = only c.number c.left

abbrev pub flatly : Left → Outcome None Lent
flatly y = only (number y) (left_of y)

-- lent records and buffers are rows of the right shape
module _ (h : Chosen) (r : Lending h) where
  slot_count : slot_rows (nums_of r.rows) ≡ h.rows
  slot_count =
      let n : length (nums_of r.rows) ≡ length r.rows * row_width = length_nums r.rows in
      let c = r.slot_rows_lem in
      omega (arith, n, c)

  dir_count : dir_rows r.dirs ≡ h.dir_rows
  dir_count = let d = r.dir_rows_lem in omega (arith, d)

  -- so they are what was chosen
  pub choice : choosing (slot_rows (nums_of r.rows)) (dir_rows r.dirs) ≡ h
  choice =
      let chose : ℕ → ℕ → Chosen = λ a b. choosing a b in
      ap₂ chose slot_count dir_count

  pub few_rows : slot_rows (nums_of r.rows) ≤ 64 → dir_rows r.dirs ≤ 256 → (h.rows ≤ 64) × (h.dir_rows ≤ 256)
  few_rows a b = (omega (arith, slot_count), omega (arith, dir_count))

  rows_fine : h.rows ≤ 64 → h.dir_rows ≤ 256 → rows_b (nums_of r.rows) r.names r.dirs ≡ true
  unfolding rows_b
  rows_fine few low =
      let n : length (nums_of r.rows) ≡ length r.rows * row_width = length_nums r.rows in
      let c = r.slot_rows_lem in
      let s = r.slot_names in
      let d = r.dir_rows_lem in
      let k : length (nums_of r.rows) ≡ h.rows * row_width = omega (arith, n, c) in
      let l = le-leb h.dir_rows 256 low in
      rw (slot_count, dir_count, le-leb h.rows 64 few, l, eq-eqb _ _ k, eq-eqb _ _ s, eq-eqb _ _ d) refl

module _ (g : Geometry) (plan : List ℕ) (k : ℕ) where
  -- a mount through the face is the inner one
  pub mount_is : (h : Chosen) → h.rows ≤ 64 → h.dir_rows ≤ 256 → (r : Lending h) (d : Dev) → Shape g d.bytes d.phys
      → (y : Left) → Entered (asking g d plan r (Mount k)) y → flatly y ≡ mounted (mount_m plan g h k d)
  unfolding FaceIsFlat
  mount_is h few low r d s y e =
      let x = asking g d plan r (Mount k) in
      let shape = (shape_means g d.bytes d.phys).1 s in
      let m = mount_call plan g k x.first x.second x.buf (lent_of x) (both_fine g (lent_of x) shape (rows_fine h r few low)) in
      ap settled (face_is_flat x y e ∙ m) ∙ ap (λ (c : Chosen). mounted (mount_m plan g c k d)) (choice h r)

  -- an adoption into what the buffers hold is the inner one
  pub adopt_is : (first second buf : List ℕ) (y z : Left) (w : World) → view_w (left_of y) ≡ w → Ready g (left_of y)
      → Entered (ask_next g plan (Adopt k) first second buf y) z → flatly z ≡ flat_o (adopt_m plan g k w)
  unfolding FaceIsFlat takes_of text_if inner_m
  adopt_is first second buf y z w v R e =
      let x = ask_next g plan (Adopt k) first second buf y in
      let i = on_pool plan g (Adopt k) first second buf (left_of y) R refl refl refl in
      ap settled (face_is_flat x z e ∙ i) ∙ ap (λ (u : World). flat_o (adopt_m plan g k u)) v

-- an end that is what a call came to, where that is 0: its number, the pool and the device
module _ (g : Geometry) (c : Outcome None World) (F : Fit g c.left) (z : c.out ≡ 0) (y : Left) (e : flatly y ≡ flat_o c) where
  pub end_done : number y ≡ 0
  unfolding flat_o
  end_done = ap (λ (x : Outcome None Lent). x.out) e ∙ z

  end_left : left_of y ≡ flat_w c.left
  unfolding flat_o
  end_left = ap (λ (x : Outcome None Lent). x.left) e

  pub end_world : view_w (left_of y) ≡ c.left
  end_world = (world_is g c.left (left_of y) F end_left).0

  pub end_ready : Ready g (left_of y)
  end_ready = (world_is g c.left (left_of y) F end_left).1

  pub end_state : held y ≡ c.left.state
  unfolding view_w
  end_state = ap (λ (w : World). w.state) end_world

  pub end_dev : dev_of y ≡ c.left.dev
  unfolding view_w
  end_dev = ap (λ (w : World). w.dev) end_world
