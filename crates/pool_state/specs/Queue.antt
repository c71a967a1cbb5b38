-- The free queue and the counter: what the calls make of a state, and of its record.
use Rattle.std.specs.Prelude.{ℕ, ◌+◌, ◌-◌, List, [], ◌∷◌, ◌++◌, get_or, set, drop}
use Rattle.pool_state.specs.declared.Pool.{Pool}
use Rattle.pool_state.specs.declared.Popped.{Popped}
use Rattle.pool_state.specs.State.{State}

-- Slot i joins the queue's end.
unfoldable pub queued : ℕ → State → State
queued i s = record { chosen = s.chosen; rows = s.rows; dirs = s.dirs; queue = s.queue ++ (i ∷ []); counter = s.counter }

-- The first of the queue leaves it.
unfoldable pub unqueued : State → State
unqueued s = record { chosen = s.chosen; rows = s.rows; dirs = s.dirs; queue = drop 1 s.queue; counter = s.counter }

-- A generation is spent.
unfoldable pub spent : State → State
spent s = record { chosen = s.chosen; rows = s.rows; dirs = s.dirs; queue = s.queue; counter = s.counter + 1 }

-- ---- the same in the record

-- The first free cell is written.
unfoldable pub pushed : ℕ → Pool → Pool
pushed i q = record { chosen = q.chosen; held = q.held; dirs = q.dirs; counter = q.counter; free = q.free + 1; queue = set q.queue q.free i }

-- All cells move left, and the last becomes zero.
unfoldable pub shifted : List ℕ → List ℕ
shifted q = drop 1 q ++ (0 ∷ [])

-- The first cell, and the record without it.
unfoldable pub popped : Pool → Popped
popped q = record {
  slot = get_or q.queue 0 0;
  pool = record { chosen = q.chosen; held = q.held; dirs = q.dirs; counter = q.counter; free = q.free - 1; queue = shifted q.queue };
}

-- The counter moves on.
unfoldable pub ticked : Pool → Pool
ticked q = record { chosen = q.chosen; held = q.held; dirs = q.dirs; counter = q.counter + 1; free = q.free; queue = q.queue }
