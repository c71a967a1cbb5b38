-- Both blocks have the 20 bytes that are copied.
use Rattle.std.proofs.Common.{sym, ◌∙◌, length-take-le}
use borrow.Author.Rules.{rules}
use Rattle.demo.proofs.torn.Goals as goal

pub copy_from_slice-requires : goal.copy_from_slice-requires
copy_from_slice-requires c =
    length-take-le 20 c.args.old (search rules) ∙ sym (length-take-le 20 c.args.new (search rules))
