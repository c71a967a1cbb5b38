-- The slot that leaves the queue, in the record and in the buffers: which one it is, and the state without it.
use Rattle.std.specs.Prelude.{◌-◌, ◌≤◌, ◌<◌, ◌≡◌, drop, get_or}
use Rattle.std.proofs.Math.Path.{ap}
use Rattle.std.proofs.Math.ListN.{length, length-drop}
use Rattle.lists.specs.Blocks.{get_or_pad}
use Rattle.pool_state.specs.declared.Pool.{Pool}
use Rattle.pool_state.specs.State.{State, Bufs, bufs, pool_of, flat}
use Rattle.pool_state.specs.Queue.{unqueued, popped}
use Rattle.pool_state.specs.InBuffers.{shift_pad}

module _ (s : State) (q : Pool) (e : q ≡ pool_of s) where
  pub pop_pool : 0 < length s.queue → length s.queue ≤ 64 → ((popped q).slot ≡ get_or s.queue 0 0) × ((popped q).pool ≡ pool_of (unqueued s))
  unfolding popped pool_of unqueued
  pop_pool p h =
      let n : length (drop 1 s.queue) ≡ length s.queue - 1 = length-drop 1 s.queue in
      (rw e (get_or_pad 64 s.queue 0 h), rw (e, n, shift_pad 64 s.queue p h))

module _ (s : State) (b : Bufs) (e : b ≡ flat s) where
  pub pop_flat : 0 < length s.queue → length s.queue ≤ 64 → bufs (popped b.pool).pool b.nums b.names b.dirs ≡ flat (unqueued s)
  unfolding flat unqueued
  pop_flat p h = rw ((pop_pool s b.pool (ap (λ (x : Bufs). x.pool) e) p h).1, e)
