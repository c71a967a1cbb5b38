-- Carried by the record `Syncing`: the slots that are left come to the whole.
use mathlib.Core.Path.{refl}
use Rattle.inner_dirs.proofs.Syncing.{syncing_start, syncing_stop, syncing_more, syncing_done}
use native.Mathlib.Omega.{arith}
use Rattle.inner_dirs.proofs.sync_dir.Goals as goal

pub loop-i-init : goal.loop-i-init
loop-i-init c = syncing_start _ _ _ _ c.requires

pub returns-then-done-ne0 : goal.returns-then-done-ne0
returns-then-done-ne0 c =
    syncing_stop _ _ _ _ _ _ _ c.loop-i.invariant (omega arith) _ _ c.sync_one-done.ensures c.if-done-ne0.true

pub loop-i-preserved : goal.loop-i-preserved
loop-i-preserved c =
    syncing_more _ _ _ _ _ _ _ c.loop-i.invariant (omega arith) _ _ c.sync_one-done.ensures refl c.if-done-ne0.false

pub returns : goal.returns
returns c = syncing_done _ _ _ _ _ _ _ c.loop-i.invariant (omega arith)
