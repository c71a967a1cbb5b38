-- `mounts_is` says which of the two it is.
use mathlib.Core.Path.{refl}
use Rattle.pool.proofs.Ways.{mounts_is, chosen, other}
use Rattle.pool.proofs.lost.Goals as goal

pub returns-then-takes : goal.returns-then-takes
returns-then-takes c =
    chosen _ _ _ _ (mounts_is _ _ _ c.takes_of-takes.ensures c.if-takes.true) refl

pub returns : goal.returns
returns c =
    other _ _ _ _ (mounts_is _ _ _ c.takes_of-takes.ensures c.if-takes.false) refl
