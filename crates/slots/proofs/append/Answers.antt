-- What is held then is what was held and the part, cut at the buffer's end: `appended`.
use Rattle.slots.proofs.Held.{appended, appended_fits}
use Rattle.slots.proofs.append.Goals as goal

pub returns-clause-kept : goal.returns-clause-kept
returns-clause-kept c =
    appended c.args.line.now c.args.part.now c.args.held c.min-n.result c.requires c.min-n.ensures c.copy_from_slice.ensures.after

pub returns-clause-within : goal.returns-clause-within
returns-clause-within c =
    appended_fits c.args.line.now c.args.part.now c.args.held c.min-n.result c.requires c.min-n.ensures c.copy_from_slice.ensures.after
