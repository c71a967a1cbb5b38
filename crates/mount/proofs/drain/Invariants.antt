-- Carried by the record `Draining`: the releases that are left come to the whole.
use mathlib.Core.Path.{◌≡◌}
use lib.ListN.{length}
use Rattle.device.specs.Device.{dev}
use Rattle.pool_state.specs.State.{bufs}
use Rattle.pool_steps.specs.World.{lent, view_w}
use Rattle.mount.proofs.Draining.{Draining}
use Rattle.mount.proofs.drain.Given as goal

abbrev pub invariant-loop-loser : goal.invariant-loop-loser
invariant-loop-loser l =
    Draining l.plan l.geometry l.loser-items (view_w (lent (dev l.initial.bytes l.initial.phys l.initial.at) (bufs l.initial.q l.initial.nums l.initial.names l.dirs))) (lent (dev l.bytes l.phys l.at) (bufs l.q l.nums l.names l.dirs)) l.loser-index
    × (length l.bytes ≡ length l.initial.bytes) × (length l.phys ≡ length l.initial.phys) × (length l.nums ≡ length l.initial.nums) × (length l.names ≡ length l.initial.names)
