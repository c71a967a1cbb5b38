-- What `enter` ensures, with the place that it replied put into the lent one.
use Rattle.pool.proofs.call.Goals as goal

pub returns-clause-same : goal.returns-clause-same
returns-clause-same c = c.enter-reply.ensures
