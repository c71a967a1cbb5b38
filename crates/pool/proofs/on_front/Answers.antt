-- The law `on_front`: what the call left of the numbers that it was lent is at the front.
use mathlib.Core.Path.{sym}
use lib.Seq.{length-take-le}
use Rattle.pool.proofs.Ways.{on_front}
use Rattle.pool.proofs.on_front.Goals as goal

pub slice_bounds-make-end-2 : goal.slice_bounds-make-end-2
slice_bounds-make-end-2 c =
    sym (length-take-le _ _ c.requires)

pub returns : goal.returns
returns c =
    on_front _ _ _ _ _ _ _ _ _ _ _ c.requires c.make.auto.nums c.make.ensures
