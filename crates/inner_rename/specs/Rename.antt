-- 01's "Rename": what comes before the device, the file's new header, and the holder of `to` that gives way.
use Rattle.std.specs.Prelude.{ℕ, true, false, cond, List, eqb, ltb, length}
use Rattle.limits.specs.Limits.{max_path}
use Rattle.path.specs.Path.{same_path}
use Rattle.header.specs.Block.{bound_header, encoded}
use Rattle.device.specs.declared.Geometry.{Geometry}
use Rattle.slot_rows.specs.Rows.{file, bound, at, len_of, resized, find}
use Rattle.pool_state.specs.State.{State}
use Rattle.pool_state.specs.Queue.{spent}
use Rattle.pool_state.specs.Changes.{with_row}
use Rattle.pool_steps.specs.World.{World, world}
use Rattle.pool_steps.specs.Steps.{fine_m, put_m, release_m}
use Rattle.pool_steps.specs.Outcome.{Outcome, outcome, None, by_device}
use Rattle.inner_open.specs.Files.{is_file, room, registers}
use Rattle.inner_rename.specs.declared.Course.{Course}

-- Nothing is left to do: the call's number.
abbrev pub stopped : ℕ → Course
stopped n = record { out = n; go = false; from = 0; to = 0 }

-- 9 "needs 1, or 2 if `to` is held"
abbrev pub needs : List ℕ → State → ℕ
needs to s = cond (is_file to s) 2 1

abbrev pub admitted : ℕ → ℕ → ℕ → Course
admitted n i j = cond (eqb n 0) (record { out = 0; go = true; from = i; to = j }) (stopped n)

-- "Rename: 4, equal paths, 5, 8, 9"; "Equal paths: nothing changes, or 5."
unfoldable pub front_m : List ℕ → List ℕ → State → Course
front_m from to s =
    cond (ltb max_path (length to)) (stopped 4)
    (cond (same_path from to) (stopped (cond (is_file from s) 0 5))
    (cond (is_file from s) (admitted (room (needs to s) to s) (find from s.rows) (find to s.rows)) (stopped 5)))

-- "new generation and path, header written and flushed; on failure the old binding returns, dirty, generation spent"
unfoldable pub rebind_m : List ℕ → Geometry → ℕ → List ℕ → World → World
rebind_m plan g i to w =
    let s = w.state in
    let r = at s.rows i in
    let d = put_m plan g i (encoded (bound_header (length to) (len_of r) s.counter) to) w.dev in
    world d (spent (cond (fine_m d) s (with_row i (resized (len_of r) true r) s)))

-- "Then the holder of `to` is released"
unfoldable pub vacated_m : List ℕ → Geometry → ℕ → World → World
vacated_m plan g j w = cond (ltb j (length w.state.rows)) (release_m plan g j w) w

-- "if that fails the rename stands, `to`'s ancestors are not registered, and 10 or 11 comes back". The row has its new path once the holder
-- has let it go, so that no two rows ever hold one path.
unfoldable pub settled_m : List ℕ → Geometry → ℕ → ℕ → List ℕ → ℕ → ℕ → World → Outcome None World
settled_m plan g i j to generation len w =
    let u = vacated_m plan g j w in
    let s = with_row i (bound to (file generation len false)) u.state in
    by_device (world u.dev (cond (fine_m u.dev) (registers to s) s))

unfoldable pub renamed_m : List ℕ → Geometry → ℕ → ℕ → List ℕ → World → Outcome None World
renamed_m plan g i j to w =
    let v = rebind_m plan g i to w in
    cond (fine_m v.dev) (settled_m plan g i j to w.state.counter (len_of (at w.state.rows i)) v) (by_device v)

unfoldable pub rename_m : List ℕ → Geometry → List ℕ → List ℕ → World → Outcome None World
rename_m plan g from to w =
    let f = front_m from to w.state in
    cond f.go (renamed_m plan g f.from f.to to w) (outcome f.out tt w)
