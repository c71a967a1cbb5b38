-- The invariant: from i on all is sorted. `sort_turn` puts one more in its place.
use mathlib.Core.Path.{◌≡◌}
use mathlib.Core.List.{◌++◌}
use lib.ListN.{take, drop}
use Rattle.lists.specs.Sort.{sort}
use Rattle.row_order.specs.Spans.{span_before}
use Rattle.row_order.proofs.sort.Given as goal

abbrev pub invariant-loop-i : goal.invariant-loop-i
invariant-loop-i l = l.spans ≡ take l.i l.initial.spans ++ sort (span_before l.bytes) (drop l.i l.initial.spans)
