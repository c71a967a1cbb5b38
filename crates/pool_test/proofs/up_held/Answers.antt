-- Carried by `tail_no`, `up_root` and `up_find` of Upright.antt, a way out each.
use Rattle.std.proofs.Common.{sym, ◌∙◌}
use Rattle.pool_test.proofs.Upright.{tail_no, up_root, up_find}
use Rattle.pool_test.proofs.up_held.Goals as goal

pub returns-then-not-is_normal : goal.returns-then-not-is_normal
returns-then-not-is_normal c =
    tail_no _ _ _ c.requires.2 _ c.requires.3 _ _ c.tail_at-k.ensures (sym c.is_normal.ensures ∙ c.if-not-is_normal.true)

pub returns-then-e-eq0 : goal.returns-then-e-eq0
returns-then-e-eq0 c =
    up_root _ _ _ c.requires.2 _ c.requires.3 _ _ c.tail_at-k.ensures c.above-e.ensures (sym c.is_normal.ensures ∙ c.if-not-is_normal.false)
    c.if-e-eq0.true

pub returns : goal.returns
returns c =
    up_find _ _ _ c.requires.2 _ c.requires.3 _ _ c.tail_at-k.ensures c.above-e.ensures (sym c.is_normal.ensures ∙ c.if-not-is_normal.false)
    c.if-e-eq0.false _ c.if-e-k.false c.dir_find.ensures
