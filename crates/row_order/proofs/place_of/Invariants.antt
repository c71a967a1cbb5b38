-- The invariant `Narrow`: below low none, from high on all. `narrow_down` and `narrow_up` set a half aside.
use Prim.Native.Nat.{◌-◌}
use lib.ListN.{get_or, drop}
use Rattle.row_order.specs.Spans.{span_before}
use Rattle.row_order.proofs.Turns.{Narrow}
use Rattle.row_order.proofs.place_of.Given as goal

abbrev pub invariant-loop-low : goal.invariant-loop-low
invariant-loop-low l = Narrow (span_before l.bytes) (get_or l.spans 0 0) (drop 1 l.spans) l.low l.high

abbrev pub decreases-loop-low : goal.decreases-loop-low
decreases-loop-low l = l.high - l.low
