-- The place of the first `stop` is how many bytes stand before it: `run_at`, and `run_none` where there is none.
use Rattle.line_words.proofs.Ways.{run_at, run_none}
use Rattle.line_words.proofs.run_end.Goals as goal

pub returns-in-Some : goal.returns-in-Some
returns-in-Some c =
    run_at _ _ _ c.in-Some.ensures

pub returns-in-None : goal.returns-in-None
returns-in-None c =
    run_none _ _ _ c.requires c.in-None.ensures
