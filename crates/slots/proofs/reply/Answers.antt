-- The line that is held lies in the buffer. The answer is short enough for the room that was made (`answers_fit`), so it lies there whole:
-- `uncut`.
use Prim.Native.Nat.{ℕ}
use mathlib.Core.Path.{ap}
use mathlib.Core.List.{List}
use native.Mathlib.Omega.{arith}
use lib.ListN.{take}
use Rattle.device.specs.Device.{dev}
use Rattle.pool_state.specs.State.{Bufs, bufs}
use Rattle.pool_steps.specs.World.{Lent, lent}
use Rattle.line.specs.Lines.{Printed, prints, line_t}
use Rattle.slots.specs.Room.{answers_fit}
use Rattle.slots.proofs.Uncut.{uncut}
use Rattle.slots.proofs.reply.Goals as goal

pub returns-clause-whole : goal.returns-clause-whole
unfolding prints
returns-clause-whole c =
    let a = c.args in
    let at : ℕ = c.make_room-start.result in
    let b : Bufs = bufs a.run.pool a.nums.now a.names.now a.dirs.now in
    let l : Lent = lent (dev a.bytes.now a.phys.now a.run.place) b in
    let line : List ℕ = take a.run.held a.line.now in
    λ k room.
    uncut a.out.now (line_t line l).text at c.make_room-start.ensures.within
    (omega (arith, answers_fit line l k, c.make_room-start.ensures.room room))
    (ap (λ (p : Printed). p.shown) c.answer_line-said.ensures) c.reach.ensures
