-- The invariant: what is held and what waits lie in their buffers.
use Rattle.std.proofs.Common.{length}
use Rattle.slots.specs.Slots.{InBuffers}
use Rattle.slots.proofs.answer_all.Given as goal

abbrev pub invariant-loop : goal.invariant-loop
invariant-loop l = InBuffers (length l.line) (length l.out) l.r
