-- The invariant `Narrow`: below low none, from high on all. `narrow_down` and `narrow_up` set a half aside.
use mathlib.Core.Path.{sym, ◌∙◌}
use lib.ListN.{length-drop}
use Rattle.row_order.specs.InOrder.{before_levels, inside_get}
use Rattle.row_order.proofs.Turns.{narrow_end, narrow_down, narrow_up, behind}
use native.Mathlib.Omega.{arith}
use Rattle.row_order.proofs.place_of.Goals as goal

pub comes_before-requires : goal.comes_before-requires
comes_before-requires c = (
  inside_get _ _ _ c.requires.0 c.requires.1,
  inside_get _ _ _ c.requires.0
      (omega (arith, c.loop-low.invariant.fits, length-drop 1 c.args.spans.now)),
)

pub loop-low-preserved-then-comes_before : goal.loop-low-preserved-then-comes_before
loop-low-preserved-then-comes_before c =
    narrow_down _ _ _ (before_levels _) c.requires.2 _ _ _ c.loop-low.invariant (omega arith) (omega arith)
    (behind c.args.bytes.now c.args.spans.now _ (sym c.comes_before.ensures ∙ c.if-comes_before.true))

pub loop-low-preserved : goal.loop-low-preserved
loop-low-preserved c =
    narrow_up _ _ _ (before_levels _) c.requires.2 _ _ _ c.loop-low.invariant (omega arith) (omega arith)
    (behind c.args.bytes.now c.args.spans.now _ (sym c.comes_before.ensures ∙ c.if-comes_before.false))

pub returns : goal.returns
returns c =
    narrow_end _ _ _ _ _ c.loop-low.invariant c.loop-low-test.false
