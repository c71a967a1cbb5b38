-- What a call comes to: its number (01, "Numbers that come back"), its further results, and what it leaves behind.
use Rattle.std.specs.Prelude.{ℕ, ◌≡◌, ◌⊎◌}
use Rattle.pool_state.specs.Numbers.{IsNumber}
use Rattle.pool_steps.specs.World.{World, Lent, flat_w}

pub record Outcome (R X : Type 0) : Type 0 where
  pub out : ℕ
  pub results : R
  pub left : X

abbrev pub outcome : {R X : Type 0} → ℕ → R → X → Outcome R X
outcome n r x = record { out = n; results = r; left = x }

-- The same with the buffers that hold what is left.
unfoldable pub flat_o : {R : Type 0} → Outcome R World → Outcome R Lent
flat_o o = outcome o.out o.results (flat_w o.left)

-- No further results.
abbrev pub None : Type 0
None = Unit {0}

-- A number and what is left, with no further results.
abbrev pub only : {X : Type 0} → ℕ → X → Outcome None X
only n x = outcome n tt x

-- The number that the last device call came to: 0, 10 or 11.
abbrev pub by_device : World → Outcome None World
by_device w = outcome w.dev.place.last tt w

-- A call that was not refused: it is done (0), or a device call failed (10), or a write stored too little (11). No device call comes to
-- another number.
abbrev pub NotRefused : ℕ → Type 0
NotRefused n = (n ≡ 0) ⊎ ((n ≡ 10) ⊎ (n ≡ 11))

-- Its number is one of 01's.
abbrev pub Out : {R X : Type 0} → Outcome R X → Type 0
Out o = IsNumber o.out
