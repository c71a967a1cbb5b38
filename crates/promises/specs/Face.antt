-- The words for calls through the pool's public face, `pool::call`, and that its contract is the flat one: the contract is `Entered` of
-- crate pool, which says of the records' numbers what the flat call (`calls::make`) says of flat ones.
use Rattle.std.specs.Prelude.{ℕ, ◌*◌, ◌≡◌, List, length}
use Rattle.limits.specs.Limits.{max_path, dir_width}
use Rattle.device.specs.declared.Geometry.{Geometry}
use Rattle.device.specs.Device.{Dev, dev}
use Rattle.slot_records.specs.declared.Slot.{Slot}
use Rattle.slot_records.specs.Records.{nums_of}
use Rattle.pool_state.specs.declared.Chosen.{Chosen}
use Rattle.pool_state.specs.declared.Pool.{Pool}
use Rattle.pool_state.specs.State.{State, bufs, view}
use Rattle.pool_steps.specs.World.{Lent, lent}
use Rattle.calls_gate.specs.declared.Call.{Call}
use Rattle.calls_gate.specs.Answers.{number_of}
use Rattle.calls_gate.specs.Replies.{Came, came}
use Rattle.calls_gate.specs.Calls.{call_p}
use Rattle.pool.specs.Face.{Asked, Left, lent_of, Entered}

-- ---- what a call leaves

-- Its number; the device and all that it was lent as the flat call sees it, the place being the lent one; and the pool in it.
abbrev pub number : Left → ℕ
number y = number_of y.reply.answer

abbrev pub dev_of : Left → Dev
dev_of y = dev y.bytes y.phys y.at

abbrev pub left_of : Left → Lent
left_of y = lent (dev_of y) (bufs y.reply.pool (nums_of y.rows) y.names y.dirs)

abbrev pub held : Left → State
held y = view (left_of y).bufs

-- All of it: the number, what it tells, what is left of all that was lent, and of the buffer.
abbrev pub came_of : Left → Came
came_of y = came (number y) y.reply.told (left_of y) y.buf

-- The face comes to what the flat call comes to. So all that is said of `call_p` is said of the face.
unfoldable pub FaceIsFlat : Type 0
FaceIsFlat = (x : Asked) (y : Left) → Entered x y
    → came_of y ≡ call_p x.plan x.geometry x.call x.first x.second x.buf (lent_of x)

-- Whatever it is asked, and whatever it is lent, there is an end that its contract allows: no input is shut out.
unfoldable pub EveryCallEnds : Type 0
EveryCallEnds = (x : Asked) → (y : Left) × Entered x y

-- "Any two outcomes it allows are the same", the place and the records too.
unfoldable pub FaceDecides : Type 0
FaceDecides = (x : Asked) (y z : Left) → Entered x y → Entered x z → y ≡ z

-- ---- what a call is lent

-- The device, as it is lent, and the pool in what is lent.
abbrev pub device_of : Asked → Dev
device_of x = (lent_of x).dev

abbrev pub held_before : Asked → State
held_before x = view (lent_of x).bufs

-- Slot rows and directory rows of these numbers, whatever they hold, and what else is handed to a call and not looked at.
pub record Lending (h : Chosen) : Type 0 where
  pub rows : List Slot
  pub names : List ℕ
  pub dirs : List ℕ
  pub pool : Pool
  pub first : List ℕ
  pub second : List ℕ
  pub buf : List ℕ
  pub slot_rows_lem : length rows ≡ h.rows
  pub slot_names : length names ≡ h.rows * max_path
  pub dir_rows_lem : length dirs ≡ h.dir_rows * dir_width

-- A call that is made with these rows on a device, under a plan.
abbrev pub asking : {h : Chosen} → Geometry → Dev → List ℕ → Lending h → Call → Asked
asking g d plan r c = record {
  bytes = d.bytes;
  phys = d.phys;
  geometry = g;
  plan = plan;
  at = d.place;
  rows = r.rows;
  names = r.names;
  dirs = r.dirs;
  pool = r.pool;
  call = c;
  first = r.first;
  second = r.second;
  buf = r.buf;
}

-- A call that is lent what an earlier one left.
abbrev pub ask_next : Geometry → List ℕ → Call → List ℕ → List ℕ → List ℕ → Left → Asked
ask_next g plan c first second buf y = record {
  bytes = y.bytes;
  phys = y.phys;
  geometry = g;
  plan = plan;
  at = y.at;
  rows = y.rows;
  names = y.names;
  dirs = y.dirs;
  pool = y.reply.pool;
  call = c;
  first = first;
  second = second;
  buf = buf;
}
