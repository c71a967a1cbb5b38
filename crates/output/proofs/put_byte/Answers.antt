-- One byte, where there is room for one.
use Prim.Native.Nat.{ℕ, ◌+◌}
use mathlib.Core.List.{List}
use mathlib.Core.Path.{refl, sym, ap}
use lib.Seq.{set_out}
use Rattle.output.specs.Writer.{shown, pours}
use Rattle.output.proofs.put_byte.Goals as goal

pub returns-then-at-out : goal.returns-then-at-out
unfolding pours
returns-then-at-out c =
    refl

pub returns : goal.returns
unfolding pours
returns c =
    ap (λ (o : List ℕ). shown o (c.args.at + 1)) (sym (set_out c.args.out.now c.args.at c.args.x c.if-at-out.false))
