-- The invariant: unbinding the losers that are left gives the whole.
use mathlib.Core.Path.{refl, sym, ◌∙◌}
use Rattle.slot_rows.proofs.InBuffers.{nums_long, names_long}
use Rattle.mount_install.proofs.Walks.{list_in, vacated_more, vacated_done}
use Rattle.mount_install.proofs.unbind_losers.Goals as goal

pub loop-loser-init : goal.loop-loser-init
loop-loser-init c =
    (c.requires.0, refl)

pub unbind_row-requires : goal.unbind_row-requires
unbind_row-requires c =
    (c.loop-loser.invariant.0, c.requires.2 _ (list_in _ _ c.loop-loser-test.true))

pub loop-loser-preserved : goal.loop-loser-preserved
loop-loser-preserved c =
    (c.unbind_row.ensures.flat, vacated_more _ _ _ _ _ c.loop-loser-test.true c.loop-loser.invariant.1 c.unbind_row.ensures.rows)

pub shape_of-nums : goal.shape_of-nums
shape_of-nums c =
    nums_long _ _ _ _ c.loop-loser.invariant.0 ∙ sym (nums_long _ _ _ _ c.requires.0)

pub shape_of-names : goal.shape_of-names
shape_of-names c =
    names_long _ _ _ _ c.loop-loser.invariant.0 ∙ sym (names_long _ _ _ _ c.requires.0)

pub returns : goal.returns
returns c = record {
  rows = vacated_done _ _ _ _ c.loop-loser-test.false c.loop-loser.invariant.1;
  flat = c.loop-loser.invariant.0;
}
