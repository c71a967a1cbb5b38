-- `step` meets its contract by `xor_lt`: the exclusive or of a 32-bit state and a byte stays below 2^32.
use borrow.Author.Rules.{rules}
use native.Mathlib.Omega.{arith}
use Prim.Native.Nat.{◌<◌, ◌^◌}
use lib.Bits.{bit_xor, xor_lt}
use Rattle.fnv.specs.Fnv.{stepped}
use Rattle.fnv.proofs.step.Goals as goal

xor-fits : (c : goal.Start) → bit_xor c.args.h c.args.b < 2 ^ 32
xor-fits c = xor_lt 32 c.args.h c.args.b (omega arith) (omega arith)

pub overflow_cast-x-2 : goal.overflow_cast-x-2
overflow_cast-x-2 c =
    omega (arith, xor-fits c)

pub overflow_mul-result : goal.overflow_mul-result
overflow_mul-result c =
    omega (arith, xor-fits c)

pub returns : goal.returns
unfolding stepped
returns c =
    search rules
