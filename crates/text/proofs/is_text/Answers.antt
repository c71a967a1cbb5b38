-- `is_text` meets its contract by `ascii_is_text` where it does not walk. Assumes nothing.
use mathlib.Core.Path.{sym}
use Rattle.text.specs.Text.{is_text}
use Rattle.text.proofs.Grammar.{ascii_is_text}
use Rattle.text.proofs.is_text.Goals as goal

pub returns-then-greatest-lt128 : goal.returns-then-greatest-lt128
returns-then-greatest-lt128 c =
    sym (ascii_is_text _ (rw c.greatest.ensures at c.if-greatest-lt128.true))

pub returns : goal.returns
unfolding is_text
returns c =
    rw c.walk-end.ensures
