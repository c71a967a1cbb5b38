-- At a mount both buffers are filled with zeros; else both stay.
use Rattle.std.proofs.Common.{rules, refl, ap, ◌∙◌}
use Rattle.calls_gate.specs.declared.Answer.TheVariants.{WrongShape}
use Rattle.calls_gate.specs.Replies.{silently}
use Rattle.pool.proofs.Ways.{mounts_is, chosen, other}
use Rattle.pool.proofs.too_many.Goals as goal

pub returns-then-takes : goal.returns-then-takes
returns-then-takes c =
    let m = mounts_is _ _ _ c.takes_of-takes.ensures c.if-takes.true in
    record {
      reply = chosen _ _ _ _ m (c.silent.ensures ∙ ap (silently WrongShape c.args.place) c.zero-zero.ensures);
      names = chosen _ _ _ _ m (c.fill.ensures.after (search rules));
      dirs = chosen _ _ _ _ m (c.fill-then-takes.ensures.after (search rules));
    }

pub returns : goal.returns
returns c =
    let m = mounts_is _ _ _ c.takes_of-takes.ensures c.if-takes.false in
    record { reply = other _ _ _ _ m c.silent-2.ensures; names = other _ _ _ _ m refl; dirs = other _ _ _ _ m refl }
