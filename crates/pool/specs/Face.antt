-- The contract of `pool::call`: what is lent to it and what it is asked for, what it replies and leaves, and how the two hang together.
use Rattle.std.specs.Prelude.{ℕ, ◌≡◌, List}
use Rattle.device.specs.declared.Geometry.{Geometry}
use Rattle.device.specs.declared.Place.{Place}
use Rattle.device.specs.Device.{dev}
use Rattle.slot_records.specs.declared.Slot.{Slot}
use Rattle.slot_records.specs.Records.{nums_of}
use Rattle.pool_state.specs.declared.Pool.{Pool}
use Rattle.pool_state.specs.State.{bufs}
use Rattle.pool_steps.specs.World.{Lent, lent}
use Rattle.calls_gate.specs.declared.Call.{Call}
use Rattle.calls_gate.specs.declared.Reply.{Reply}
use Rattle.calls_gate.specs.Replies.{replied}
use Rattle.calls_gate.specs.Calls.{call_p}

-- What it is asked, with all that it is lent.
pub record Asked : Type 0 where
  pub bytes : List ℕ
  pub phys : List ℕ
  pub geometry : Geometry
  pub plan : List ℕ
  pub at : Place
  pub rows : List Slot
  pub names : List ℕ
  pub dirs : List ℕ
  pub pool : Pool
  pub call : Call
  pub first : List ℕ
  pub second : List ℕ
  pub buf : List ℕ

-- What it replies, with all that it leaves.
pub record Left : Type 0 where
  pub reply : Reply
  pub bytes : List ℕ
  pub phys : List ℕ
  pub at : Place
  pub rows : List Slot
  pub names : List ℕ
  pub dirs : List ℕ
  pub buf : List ℕ

-- The flat call's view of what is lent: the records are their numbers.
abbrev pub lent_of : Asked → Lent
lent_of x = lent (dev x.bytes x.phys x.at) (bufs x.pool (nums_of x.rows) x.names x.dirs)

-- The call that is asked for is what it comes to,
abbrev pub Same : Asked → Left → Type 0
Same x y =
    replied y.reply y.bytes y.phys (nums_of y.rows) y.names y.dirs y.buf
    ≡ call_p x.plan x.geometry x.call x.first x.second x.buf (lent_of x)

-- and the lent place is the reply's.
abbrev pub Placed : Left → Type 0
Placed y = y.at ≡ y.reply.place

abbrev pub Entered : Asked → Left → Type 0
Entered x y = Same x y × Placed y

-- ---- from what is lent at a function's entry, and at its exit

abbrev pub Lend : Type 0 → Type 0
Lend X = X

abbrev pub asked : Lend (List ℕ) → Lend (List ℕ) → Geometry → Lend (List ℕ) → Lend Place → Lend (List Slot) → Lend (List ℕ)
    → Lend (List ℕ) → Pool → Call → Lend (List ℕ) → Lend (List ℕ) → Lend (List ℕ) → Asked
asked bytes phys g plan at rows names dirs q c one two buf = record {
  bytes = bytes;
  phys = phys;
  geometry = g;
  plan = plan;
  at = at;
  rows = rows;
  names = names;
  dirs = dirs;
  pool = q;
  call = c;
  first = one;
  second = two;
  buf = buf;
}

abbrev pub left : Reply → Lend (List ℕ) → Lend (List ℕ) → Lend Place → Lend (List Slot) → Lend (List ℕ) → Lend (List ℕ)
    → Lend (List ℕ) → Left
left r bytes phys at rows names dirs buf = record {
  reply = r;
  bytes = bytes;
  phys = phys;
  at = at;
  rows = rows;
  names = names;
  dirs = dirs;
  buf = buf;
}
