-- The invariant: what is held and what waits lie in their buffers. The measure is what of the block is left.
use Rattle.std.proofs.Common.{◌-◌, length}
use Rattle.slots.specs.Slots.{InBuffers}
use Rattle.slots.proofs.answer_block.Given as goal

abbrev pub invariant-loop-r : goal.invariant-loop-r
invariant-loop-r l = InBuffers (length l.line) (length l.out) l.r

abbrev pub decreases-loop-r : goal.decreases-loop-r
decreases-loop-r l = length l.input - l.r.at
