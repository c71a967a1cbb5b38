-- Equal bytes are equal paths; else the walk answers.
use Rattle.std.proofs.Common.{sym, ◌∙◌}
use Rattle.path.proofs.Theorems.{bytes_same_path}
use Rattle.path.proofs.same_path.Goals as goal

pub returns-then-same_bytes : goal.returns-then-same_bytes
returns-then-same_bytes c =
    sym (bytes_same_path _ _ (sym c.same_bytes.ensures ∙ c.if-same_bytes.true))

pub returns : goal.returns
returns c =
    c.same_walk.ensures
