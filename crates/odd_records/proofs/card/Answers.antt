-- A run of n zeros has n bytes, whatever n is: the law is stated over n, so that the million is never counted out.
use Prim.Native.Nat.{ℕ}
use mathlib.Core.Path.{◌≡◌, sym}
use lib.ListN.{length, replicate, length-replicate}
use Rattle.odd_records.proofs.card.Goals as goal

many : (n : ℕ) → n ≡ length (replicate {A = ℕ} n 0)
many n = sym (length-replicate {A = ℕ} n 0)

pub returns : goal.returns
returns c =
    many 1049088
