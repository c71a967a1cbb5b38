-- A run of numbers that a function is lent, as a contract may take it: the list that it is at entry, or at exit.
use Rattle.std.specs.Prelude.{ℕ, List}

-- A lent run, as it is at one of the two.
abbrev pub Run : Type 0
Run = List ℕ
