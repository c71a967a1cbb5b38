-- Mount and adopt: 01, "Mount, adopt" and "Numbers that come back".
use Rattle.std.specs.Prelude.{ℕ, ◌+◌, ◌-◌, ◌*◌, ◌≤◌, ◌<◌, Bool, cond, ◌||◌, List, [], ◌∷◌, ◌++◌, ltb, eqb, length, replicate}
use Rattle.limits.specs.Limits.{max_path, row_width, dir_width, last_counter}
use Rattle.lists.specs.Distinct.{In, Distinct}
use Rattle.device.specs.declared.Place.{Place}
use Rattle.device.specs.declared.Geometry.{Geometry}
use Rattle.device.specs.Device.{Dev, dev}
use Rattle.pool_state.specs.declared.Chosen.{Chosen}
use Rattle.pool_state.specs.declared.Pool.{Pool}
use Rattle.pool_state.specs.State.{State, Bufs, bufs, choosing}
use Rattle.pool_steps.specs.World.{World, world, Lent, lent, flat_w}
use Rattle.pool_steps.specs.Steps.{release_m}
use Rattle.pool_steps.specs.Outcome.{Outcome, only, None}
use Rattle.mount_survey.specs.Heads.{Reads, reads_m}
use Rattle.mount_survey.specs.Survey.{Survey, survey, scan}

-- The survey of a pool before the first new header.
abbrev pub begin : State → Survey
begin s = survey s.rows [] [] s.dirs s.counter

-- The pool that a survey accepted: "Non-claims join the queue by index"; the losers are not yet released, and are neither bound nor free.
unfoldable pub installed : State → Survey → State
installed s v = record { chosen = s.chosen; rows = v.rows; dirs = v.dirs; queue = s.queue ++ v.free; counter = v.counter }

-- ".. then losers are released in the order found; a failed release is passed over."
unfoldable pub drain : List ℕ → Geometry → List ℕ → World → World
drain plan g [] w = w
drain plan g (i ∷ is) w = drain plan g is (release_m plan g i w)

-- Slots that can be released one after the other: each is held, none is free or comes twice, and there is a generation for each.
pub record Due (ls : List ℕ) (w : World) : Type 0 where
  pub once : Distinct ls
  pub inside : (i : ℕ) → In i ls → i < length w.state.rows
  pub unqueued : (i : ℕ) → In i ls → In i w.state.queue → ⊥
  pub counted : w.state.counter + length ls ≤ last_counter

-- The place has moved by the reads made; the device is unchanged.
abbrev pub moved : Place → World → World
moved p w = world (dev w.dev.bytes w.dev.phys p) w.state

-- 8, "more directories to hold than directory rows"; 9, the counter "plus one for each loser" above 2^63; else it is done.
unfoldable pub settle : List ℕ → Geometry → Survey → World → Outcome None World
settle plan g v w =
    cond (ltb w.state.chosen.dir_rows (length v.dirs)) (only 8 w)
    (cond (ltb last_counter (v.counter + length v.losers)) (only 9 w)
    (only 0 (drain plan g v.losers (world w.dev (installed w.state v)))))

-- 10 from a header read, before 8 and 9.
unfoldable pub after_reads : List ℕ → Geometry → Reads → World → Outcome None World
after_reads plan g r w =
    cond r.failed (only 10 (moved r.place w))
    (settle plan g (scan r.heads (begin w.state)) (moved r.place w))

-- "slots held and asked for together exceed slot rows or device"
unfoldable pub too_many : ℕ → World → Bool
too_many k w = ltb (w.state.chosen.rows - length w.state.rows) k || ltb (length w.dev.phys - length w.state.rows) k

-- Adopt k more slots of the device: 12, then the reads, then 8, 9.
unfoldable pub adopt_m : List ℕ → Geometry → ℕ → World → Outcome None World
adopt_m plan g k w =
    cond (too_many k w) (only 12 w)
    (after_reads plan g (reads_m plan g (length w.state.rows) k w.dev) w)

-- The pool of no slots, as chosen: "Counter starts at 1".
unfoldable pub empty_state : Chosen → State
empty_state h = record { chosen = h; rows = []; dirs = []; queue = []; counter = 1 }

-- Mount is adopt on that pool.
unfoldable pub mount_m : List ℕ → Geometry → Chosen → ℕ → Dev → Outcome None World
mount_m plan g h k d = adopt_m plan g k (world d (empty_state h))

-- "at mount the record and rows are zero": the record and the buffers that a refused mount leaves.
abbrev pub zero_pool : Pool
zero_pool = record { chosen = choosing 0 0; held = 0; dirs = 0; counter = 0; free = 0; queue = replicate 64 0 }

abbrev pub zero_bufs : Chosen → Bufs
zero_bufs h = bufs zero_pool (replicate (h.rows * row_width) 0) (replicate (h.rows * max_path) 0) (replicate (h.dir_rows * dir_width) 0)

-- A mount's number with the lent buffers.
unfoldable pub mounted : Outcome None World → Outcome None Lent
mounted o =
    only o.out
    (cond (eqb o.out 0) (flat_w o.left) (lent o.left.dev (zero_bufs o.left.state.chosen)))
