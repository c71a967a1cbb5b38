-- Carried by `turn` and `end`: the flag, or what is left of the text, has an idle slash exactly if the text has.
use Rattle.std.proofs.Common.{◌≡◌, ◌||◌, drop}
use Rattle.path.specs.Spelling.{has_idle}
use Rattle.path.proofs.is_normal.Given as goal

abbrev pub invariant-loop-j : goal.invariant-loop-j
invariant-loop-j l = has_idle l.s ≡ (l.bad || has_idle (drop l.j l.s))
