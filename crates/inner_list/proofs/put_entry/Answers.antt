-- Carried by `entry_put`: three stores, one behind the other, are one.
use mathlib.Core.Path.{refl}
use lib.ListN.{length-set}
use native.Mathlib.Omega.{arith}
use Rattle.lists.specs.Stores.{stored_back}
use Rattle.inner_list.proofs.Ways.{entry_put}
use Rattle.inner_list.proofs.put_entry.Goals as goal

pub returns : goal.returns
returns c =
    entry_put c.args.buf.now _ _ _ c.args.path.now c.args.at c.args.kind _
    c.requires.0 refl refl c.put_at.ensures (stored_back _ _ _ _ refl (omega (arith, c.put_at.auto.dst, length-set c.args.buf.now c.args.at c.args.kind)) c.copy_from_slice.ensures.after)
