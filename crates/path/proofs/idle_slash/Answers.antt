-- The test is the definition.
use Rattle.std.proofs.Common.{refl}
use Rattle.path.specs.Spelling.{idle_slash}
use Rattle.path.proofs.idle_slash.Goals as goal

pub returns : goal.returns
unfolding idle_slash
returns c =
    refl
