-- `EveryCallEnds` of specs/Face.antt: what the flat call comes to has one of 01's numbers, and its rows are four numbers each, so it is
-- what some reply and some records say.
use Prim.Native.Nat.{ℕ, ◌*◌, ◌≤◌}
use mathlib.Core.Path.{◌≡◌, refl, ap₂, ◌∙◌}
use mathlib.Core.List.{List}
use lib.ListN.{length}
use Rattle.device.specs.Device.{dev}
use Rattle.slot_records.specs.Records.{slots_of}
use Rattle.slot_records.specs.SameNumbers.{nums_slots, length_nums}
use Rattle.pool_state.specs.State.{bufs}
use Rattle.pool_steps.specs.World.{lent}
use Rattle.calls_gate.specs.Answers.{answer_of, number_back}
use Rattle.calls_gate.specs.Replies.{Came, came}
use Rattle.calls_gate.specs.Calls.{call_p}
use Rattle.pool.specs.Face.{lent_of}
use Rattle.promises.specs.Face.{EveryCallEnds}
use Rattle.calls_gate.proofs.Ends.{call_ends}

pub every_call_ends : EveryCallEnds
unfolding EveryCallEnds
every_call_ends x =
    let c = call_p x.plan x.geometry x.call x.first x.second x.buf (lent_of x) in
    let e =
    call_ends x.plan x.geometry x.first x.second x.buf (lent_of x) (length x.rows, length_nums x.rows) x.call in
    let b = c.left.bufs in
    let with : ℕ → List ℕ → Came = λ n s. came n c.told (lent c.left.dev (bufs b.pool s b.names b.dirs)) c.buf in (
      record {
        reply = record { answer = answer_of c.number; told = c.told; place = c.left.dev.place; pool = b.pool };
        bytes = c.left.dev.bytes;
        phys = c.left.dev.phys;
        at = c.left.dev.place;
        rows = slots_of b.nums;
        names = b.names;
        dirs = b.dirs;
        buf = c.buf;
      },
      (ap₂ with (number_back c.number e.0) (nums_slots e.1.0 b.nums e.1.1), refl),
    )
