-- The invariant `Picking`, for whatever the closures answer: what is still to be picked makes the whole of it.
use Rattle.std.proofs.Common.{ℕ, ◌≤◌, Bool}
use Rattle.row_order.specs.Picks.{Picking}
use Rattle.row_order.specs.Picks.{Answers}
use Rattle.row_order.proofs.picked.Given as goal

abbrev pub invariant-loop-i : goal.invariant-loop-i
invariant-loop-i g l = record {
  few : l.count ≤ l.i;
  picks : (p : ℕ → Bool) (f : ℕ → ℕ) → Answers (goal.P-post g) l.passes l.n p → Answers (goal.S-post g) l.span l.n f → Picking f p l.n l.initial.spans l.i l.count l.spans;
}
