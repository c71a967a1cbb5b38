-- The result of an inner call that tells nothing.
use Rattle.std.specs.Prelude.{ℕ}
use Rattle.device.specs.declared.Place.{Place}
use Rattle.pool_state.specs.declared.Pool.{Pool}
use Rattle.calls_gate.specs.Replies.{nothing}
use Rattle.calls_gate.specs.declared.Went.{Went}

abbrev pub quietly : ℕ → Place → Pool → Went
quietly n p q = record { out = n; told = nothing; place = p; pool = q }
