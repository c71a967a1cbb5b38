-- The pool with its device, which the calls of pool.rs work on, and all lent buffers.
use Rattle.std.specs.Prelude.{◌≤◌, length}
pub use Rattle.lists.specs.Lends.{Run}
use Rattle.device.specs.declared.Geometry.{Geometry}
use Rattle.device.specs.declared.Place.{Place}
use Rattle.device.specs.Device.{Dev, dev, Shape}
use Rattle.pool_state.specs.declared.Pool.{Pool}
use Rattle.pool_state.specs.State.{State, Valid, Bufs, bufs, view, flat, IsPool}

-- What a pool holds, and its device.
pub record World : Type 0 where
  pub dev : Dev
  pub state : State

abbrev pub world : Dev → State → World
world d s = record { dev = d; state = s }

-- The lent buffers: those of the device, and those of the pool.
pub record Lent : Type 0 where
  pub dev : Dev
  pub bufs : Bufs

abbrev pub lent : Dev → Bufs → Lent
lent d b = record { dev = d; bufs = b }

-- What the buffers hold. The device's bytes may be any: it is its own view.
unfoldable pub view_w : Lent → World
view_w l = world l.dev (view l.bufs)

-- The buffers that hold a pool and its device.
unfoldable pub flat_w : World → Lent
flat_w w = lent w.dev (flat w.state)

-- A pool on a device of the right shape, with at least as many slots as the pool holds (01, "Numbers that come back", 1 and 2).
pub record Fit (g : Geometry) (w : World) : Type 0 where
  pub valid : Valid w.state
  pub shape : Shape g w.dev.bytes w.dev.phys
  pub slots : length w.state.rows ≤ length w.dev.phys

-- The same of the lent buffers: what every inner call needs.
pub record Ready (g : Geometry) (l : Lent) : Type 0 where
  pub pool : IsPool l.bufs
  pub shape : Shape g l.dev.bytes l.dev.phys
  pub slots : l.bufs.pool.held ≤ length l.dev.phys

-- All that a call was lent, as it was, and as it is left.
abbrev pub before : Run → Run → Place → Run → Run → Run → Pool → Lent
before bytes phys p nums names dirs q =
    lent (dev bytes phys p) (bufs q nums names dirs)

abbrev pub after : Run → Run → Place → Run → Run → Run → Pool → Lent
after bytes phys p nums names dirs q =
    lent (dev bytes phys p) (bufs q nums names dirs)
