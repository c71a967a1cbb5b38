-- What a mount leaves in the buffers and on the device, by what the inner one came to.
use mathlib.Core.Path.{◌≡◌, refl}
use mathlib.Core.Bool.{Bool, true, false, cond}
use lib.Dec.{eqb}
use borrow.Author.Tests.{eq-eqb}
use Rattle.device.specs.declared.Geometry.{Geometry}
use Rattle.device.specs.Device.{shape_b}
use Rattle.pool_steps.specs.World.{World, Lent, lent, flat_w}
use Rattle.pool_steps.specs.Outcome.{Outcome, None, flat_o}
use Rattle.mount.specs.Mount.{mounted, zero_bufs}
use Rattle.calls_gate.specs.Table.{rows_b, mountable}

-- the buffers that a mount leaves which came to 0
pub mounted_done : (c : Outcome None World) → c.out ≡ 0 → mounted c ≡ flat_o c
unfolding mounted flat_o
mounted_done c z = rw (eq-eqb c.out 0 z)

-- and its device, whatever it came to
pub mounted_dev : (c : Outcome None World) → (mounted c).left.dev ≡ c.left.dev
unfolding mounted flat_w
mounted_dev c = go (eqb c.out 0)
  where
    go : (t : Bool) → (cond t (flat_w c.left) (lent c.left.dev (zero_bufs c.left.state.chosen))).dev ≡ c.left.dev
    go true = refl
    go false = refl

-- a device and row buffers of the right shape can be mounted
pub both_fine : (g : Geometry) (l : Lent) → shape_b g l.dev.bytes l.dev.phys ≡ true
    → rows_b l.bufs.nums l.bufs.names l.bufs.dirs ≡ true → mountable g l ≡ true
unfolding mountable
both_fine g l s r = rw (s, r) refl
