-- The record is the one that `popped` makes: the cell that came round to the end becomes zero.
use Rattle.std.proofs.Common.{rules, arith, ◌≡◌, ℕ, List, [], ◌∷◌, ◌++◌, length, take, drop, set}
use Rattle.std.proofs.Math.Seq.{set-append_seam}
use Rattle.pool_state.specs.Queue.{shifted, popped}
use Rattle.pool_state.proofs.pop_free.Goals as goal

come_round : (q m : List ℕ) → length q ≡ 64 → m ≡ drop 1 q ++ take 1 q → set m 63 0 ≡ shifted q
unfolding shifted
come_round [] m h e = absurd (omega arith)
come_round (x ∷ q) m h e = let n : length q ≡ 63 = omega arith in rw (e, ← n) (set-append_seam q x [] 0)

pub returns : goal.returns
unfolding popped
returns c =
    let q = c.args.pool.queue in
    let w : length q ≡ 64 = search rules in
    rw (come_round q c.rotate_left.new.self w c.rotate_left.ensures.after)
