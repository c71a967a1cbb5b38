-- What is chosen is no row of either; the rest is as `zero_pool` has it.
use mathlib.Core.Path.{ap}
use lib.ListN.{replicate}
use Rattle.pool_state.specs.declared.Chosen.{Chosen}
use Rattle.pool_state.specs.declared.Pool.{Pool}
use Rattle.mount.proofs.zero.Goals as goal

pub returns : goal.returns
returns c =
    let put : Chosen → Pool = λ h. record { chosen = h; held = 0; dirs = 0; counter = 0; free = 0; queue = replicate 64 0 } in
    ap put c.choose.ensures
