-- Each way out by what its test says.
use Rattle.script_step.proofs.Ways.{room_is, no_room}
use Rattle.script_step.proofs.room.Goals as goal

pub returns-then-f-eq2 : goal.returns-then-f-eq2
returns-then-f-eq2 c =
    room_is _ _ c.form_of-f.ensures c.if-f-eq2.true

pub returns : goal.returns
returns c =
    no_room _ _ c.form_of-f.ensures c.if-f-eq2.false
