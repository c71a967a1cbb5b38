-- One law for each way out: `is_dump`, `no_dump`.
use Rattle.line_words.proofs.Ways.{is_dump, no_dump}
use mathlib.Core.Path.{sym, ◌∙◌}
use Rattle.line_words.proofs.one_word.Goals as goal

pub returns-then-same_bytes : goal.returns-then-same_bytes
returns-then-same_bytes c =
    is_dump c.args.line.now (sym c.same_bytes.ensures ∙ c.if-same_bytes.true)

pub returns : goal.returns
returns c =
    no_dump c.args.line.now (sym c.same_bytes.ensures ∙ c.if-same_bytes.false)
