-- By the test.
use Rattle.mount_install.proofs.queue_spare.Goals as goal

pub returns : goal.returns
returns c =
    rw c.if-bound.false c.push_free.ensures
