-- Carried by the record `Draining`: the releases that are left come to the whole.
use mathlib.Core.Path.{refl, ◌∙◌}
use Rattle.mount.proofs.Draining.{draining_start, draining_first, draining_more, draining_done}
use Rattle.mount.proofs.drain.Goals as goal

pub loop-loser-init : goal.loop-loser-init
loop-loser-init c =
    (draining_start _ _ _ _ c.requires.ready c.requires.count_bound.1, refl, refl, refl, refl)

pub release-s-requires : goal.release-s-requires
release-s-requires c =
    let all = draining_first _ _ _ _ _ _ c.loop-loser.invariant.0 c.loop-loser-test.true in
    record { ready = all.0; slot_lt_held = all.1 }

pub loop-loser-preserved : goal.loop-loser-preserved
loop-loser-preserved c = (
  draining_more _ _ _ _ _ _ c.loop-loser.invariant.0 c.loop-loser-test.true _ c.release-s.ensures,
  c.release-s.auto.bytes ∙ c.loop-loser.invariant.1,
  c.release-s.auto.phys ∙ c.loop-loser.invariant.2,
  c.release-s.auto.nums ∙ c.loop-loser.invariant.3,
  c.release-s.auto.names ∙ c.loop-loser.invariant.4,
)

pub shape_of-bytes : goal.shape_of-bytes
shape_of-bytes c =
    c.loop-loser.invariant.1

pub shape_of-phys : goal.shape_of-phys
shape_of-phys c =
    c.loop-loser.invariant.2

pub shape_of-nums : goal.shape_of-nums
shape_of-nums c =
    c.loop-loser.invariant.3

pub shape_of-names : goal.shape_of-names
shape_of-names c =
    c.loop-loser.invariant.4

pub returns : goal.returns
returns c =
    draining_done _ _ _ _ _ _ c.loop-loser.invariant.0 c.loop-loser-test.false
