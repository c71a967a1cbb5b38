-- One law for each way out: `room_dirs`, `room_last`, `room_enough`.
use native.Mathlib.Omega.{arith}
use Rattle.inner_open.proofs.Ways.{dirs_fit, room_dirs, room_last, room_enough}
use Rattle.inner_open.proofs.room.Goals as goal

pub missing-missing-requires : goal.missing-missing-requires
missing-missing-requires c =
    dirs_fit _ _ _ c.requires.0

pub overflow_sub-cap : goal.overflow_sub-cap
overflow_sub-cap c =
    omega (arith, c.requires.0.few)

pub returns-then-cap-m : goal.returns-then-cap-m
returns-then-cap-m c =
    room_dirs _ _ _ _ _ _ _ c.requires.0.few c.requires.1 c.missing-missing.ensures c.if-cap-m.true

pub overflow_sub-need : goal.overflow_sub-need
overflow_sub-need c =
    omega (arith, c.requires.1)

pub returns-then-need-counter : goal.returns-then-need-counter
returns-then-need-counter c =
    room_last _ _ _ _ _ _ _ c.requires.0.few c.requires.1 c.missing-missing.ensures c.if-cap-m.false
    c.if-need-counter.true

pub returns : goal.returns
returns c =
    room_enough _ _ _ _ _ _ _ c.requires.0.few c.requires.1 c.missing-missing.ensures c.if-cap-m.false
    c.if-need-counter.false
