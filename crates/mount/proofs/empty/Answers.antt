-- Carried by `empty_is`.
use Rattle.mount.proofs.Mounting.{empty_is}
use Rattle.mount.proofs.empty.Goals as goal

pub returns : goal.returns
returns c =
    empty_is _
