-- 01, "Numbers that come back": 0 is a call that was done, and 1 to 13 are the refusals.
use Rattle.std.specs.Prelude.{ℕ, ◌≤◌}

-- The numbers that a call can come to.
abbrev pub IsNumber : ℕ → Type 0
IsNumber n = n ≤ 13
