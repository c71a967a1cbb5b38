-- A run of equal bytes has as many as it says.
use Prim.Native.Nat.{ℕ}
use mathlib.Core.Path.{sym}
use lib.ListN.{length-replicate}
use Rattle.serve.proofs.room.Goals as goal

pub returns : goal.returns
returns c =
    sym (length-replicate {A = ℕ} 1048576 0)
