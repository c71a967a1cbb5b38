-- A slash is laid or nothing is: `put_true`, `put_false`.
use Rattle.path.proofs.Writes.{slash_room, put_true, put_false}
use Rattle.path.proofs.put_slash.Goals as goal

pub bounds-dst-at : goal.bounds-dst-at
bounds-dst-at c =
    slash_room _ _ _ c.if-sep.true c.requires

pub returns-then-sep : goal.returns-then-sep
returns-then-sep c =
    let all = put_true _ _ _ c.if-sep.true (slash_room _ _ _ c.if-sep.true c.requires) in
    record { laid = all.0; behind = all.1 }

pub returns : goal.returns
returns c =
    let all = put_false _ _ _ c.if-sep.false in
    record { laid = all.0; behind = all.1 }
