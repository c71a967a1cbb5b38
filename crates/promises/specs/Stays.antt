-- "A pool stays a pool", on its device, over all calls through the public face.
use Rattle.std.specs.Prelude.{◌≡◌, ◌≢◌, true}
use Rattle.pool_steps.specs.World.{Ready}
use Rattle.calls_gate.specs.Table.{takes_of}
use Rattle.pool.specs.Face.{Asked, Left, lent_of, Entered}
use Rattle.promises.specs.Face.{number, left_of}

-- The call's rows, record and device are those that an earlier call left, with the same slot size. Its plan and place may be any.
pub record Follows (x : Asked) (y : Left) (z : Asked) : Type 0 where
  pub geometry : z.geometry ≡ x.geometry
  pub bytes : z.bytes ≡ y.bytes
  pub phys : z.phys ≡ y.phys
  pub rows : z.rows ≡ y.rows
  pub names : z.names ≡ y.names
  pub dirs : z.dirs ≡ y.dirs
  pub pool : z.pool ≡ y.reply.pool

-- After any call on a pool with its device, but a mount that is refused, what is lent is a pool with its device again; and so the next
-- call, whatever it is, gets neither 1 nor 2. (A refused mount leaves zero rows, which are no pool.)
unfoldable pub APoolStaysAPool : Type 0
APoolStaysAPool = (x : Asked) (y : Left) → Entered x y
    → Ready x.geometry (lent_of x) → ((takes_of x.call).mounts ≡ true → number y ≡ 0)
    → Ready x.geometry (left_of y)
    × ((z : Asked) (end : Left) → Follows x y z → Entered z end → (number end ≢ 1) × (number end ≢ 2))

-- A mount that is done makes a pool on its device, of whatever was lent.
unfoldable pub AMountMakesAPool : Type 0
AMountMakesAPool = (x : Asked) (y : Left) → Entered x y
    → (takes_of x.call).mounts ≡ true → number y ≡ 0 → Ready x.geometry (left_of y)
