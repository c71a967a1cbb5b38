-- The invariant: what is to be compared is what is left of both names.
use Rattle.std.proofs.Common.{◌≡◌, length, drop}
use Rattle.path.specs.Walk.{name_order}
use Rattle.path.proofs.compare_names.Given as goal

abbrev pub invariant-loop-x : goal.invariant-loop-x
invariant-loop-x l = name_order l.more_a l.a l.more_b l.b ≡ name_order l.more_a (drop (length l.yielded) l.a) l.more_b (drop (length l.yielded) l.b)
