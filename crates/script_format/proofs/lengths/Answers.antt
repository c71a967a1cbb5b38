-- All lengths are those that stand in the script, so they are its list of them.
use Rattle.std.proofs.Common.{ap, sym, ◌∙◌, zero-add, arith}
use Rattle.lists.specs.Runs.{tab, tab_all}
use Rattle.script_format.specs.Format.{length_at}
use Rattle.script_format.proofs.lengths.Goals as goal

pub returns : goal.returns
returns c =
    let f = length_at c.args.s.now c.args.i in
    sym (tab_all f c.loop-k.phys 0 0 (λ j h. ap f (zero-add j) ∙ sym (c.loop-k.invariant j (omega arith)))) ∙ ap (tab f 0) c.loop-k.auto.phys
