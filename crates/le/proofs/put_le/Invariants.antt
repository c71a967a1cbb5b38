-- `put_le` meets its contract by `put_turn`: what is written, with the bytes of what is left of the number, is the answer.
use Prim.Native.Nat.{◌-◌}
use mathlib.Core.Path.{◌≡◌}
use mathlib.Core.List.{◌++◌}
use lib.ListN.{take}
use Rattle.le.specs.Le.{le}
use Rattle.le.proofs.put_le.Given as goal

abbrev pub invariant-loop-b : goal.invariant-loop-b
invariant-loop-b l = take l.b-index l.dst ++ le (l.b-index-end - l.b-index) l.v ≡ le l.b-index-end l.x
