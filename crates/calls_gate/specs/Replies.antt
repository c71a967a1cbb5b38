-- What comes back from a call: its answer, what it tells, what is left of all that was lent, and of the buffer.
use Rattle.std.specs.Prelude.{ℕ, Bool, false, List}
use Rattle.device.specs.declared.Place.{Place}
use Rattle.device.specs.Device.{dev}
use Rattle.pool_state.specs.declared.Pool.{Pool}
use Rattle.pool_state.specs.State.{bufs}
use Rattle.pool_steps.specs.World.{Lent, lent, Run, after}
use Rattle.calls_gate.specs.declared.Answer.{Answer}
use Rattle.calls_gate.specs.declared.Reply.{Reply}
use Rattle.calls_gate.specs.declared.Told.{Told}
use Rattle.calls_gate.specs.Answers.{number_of}

-- What any of them tells; what a call does not tell is zero.
abbrev pub telling : ℕ → ℕ → ℕ → ℕ → Bool → Told
telling slot generation len count said = record { slot = slot; generation = generation; len = len; count = count; yes = said }

abbrev pub nothing : Told
nothing = telling 0 0 0 0 false

-- A reply that tells nothing but its answer.
abbrev pub silently : Answer → Place → Pool → Reply
silently a p q = record { answer = a; told = nothing; place = p; pool = q }

-- The number of the call, what it tells, what is left of all that was lent, and of the buffer.
pub record Came : Type 0 where
  pub number : ℕ
  pub told : Told
  pub left : Lent
  pub buf : List ℕ

abbrev pub came : ℕ → Told → Lent → List ℕ → Came
came n t l b = record { number = n; told = t; left = l; buf = b }

-- A reply, with all that was lent as it is left.
abbrev pub replied : Reply → List ℕ → List ℕ → List ℕ → List ℕ → List ℕ → List ℕ → Came
replied r bytes phys nums names dirs buf =
    came (number_of r.answer) r.told (lent (dev bytes phys r.place) (bufs r.pool nums names dirs)) buf

-- The same at a function's exit.
abbrev pub replies : Reply → Run → Run → Run → Run → Run → Run → Came
replies r bytes phys nums names dirs buf =
    came (number_of r.answer) r.told (after bytes phys r.place nums names dirs r.pool) buf
