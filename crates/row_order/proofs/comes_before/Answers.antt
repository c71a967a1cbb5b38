-- Carried by `way_told`: the two parts that are lent are what the numbers spell.
use Rattle.row_order.proofs.Turns.{way_told}
use Rattle.row_order.proofs.comes_before.Goals as goal

pub returns : goal.returns
returns c =
    way_told _ _ _ _ _ c.compare.ensures c.is_lt.ensures
