-- The two calls put together.
use mathlib.Core.Path.{ap}
use Rattle.mount_install.specs.Install.{holding}
use Rattle.mount_install.proofs.install.Goals as goal

pub returns : goal.returns
returns c =
    record {
      pool = ap (holding c.args.m c.args.dirs c.args.counter) c.queue_spares-r.ensures;
      rows = c.unbind_losers.ensures.rows;
      flat = c.unbind_losers.ensures.flat;
    }
