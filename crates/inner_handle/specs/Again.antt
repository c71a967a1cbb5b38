-- The second liveness look (02, CR 12). The Rust's write_at and set_len look at the binding again once the device has done its work, since
-- another thread might have changed it, and give 6 where the handle is stale by then. The calls here have the pool to themselves and look
-- once: the calls with the second look are the same calls, and 6 comes from the first look alone.
use Rattle.std.specs.Prelude.{ℕ, ◌+◌, max, ◌≡◌, ◌↔◌, false, cond, List, length}
use Rattle.device.specs.declared.Geometry.{Geometry}
use Rattle.device.specs.Device.{Dev, data_write_m, data_truncate_m}
use Rattle.slot_rows.specs.Rows.{at, len_of}
use Rattle.pool_state.specs.State.{State}
use Rattle.pool_steps.specs.World.{World, world}
use Rattle.pool_steps.specs.Steps.{fine_m}
use Rattle.pool_steps.specs.Outcome.{Outcome, None, only, by_device}
use Rattle.inner_handle.specs.Handles.{is_live, on_handle, resized_m, write_at_m, set_len_m}

-- After the device call that left d: where it was done, the handle is looked at again, and gives 6 with no row changed if it is stale; where
-- it is live, or the device call was not done, the call ends as with one look.
unfoldable pub look_again_m : ℕ → ℕ → Dev → ℕ → State → Outcome None World
look_again_m slot generation d n s =
    let ends = by_device (resized_m d slot n s) in
    cond (fine_m d) (cond (is_live slot generation s.rows) ends (only 6 (world d s))) ends

-- `write_at_m` with a second look.
unfoldable pub write_twice_m : List ℕ → Geometry → ℕ → ℕ → ℕ → List ℕ → World → Outcome None World
write_twice_m plan g slot generation pos src w =
    on_handle slot generation tt w
    (look_again_m slot generation (data_write_m plan g slot pos src w.dev) (max (len_of (at w.state.rows slot)) (pos + length src)) w.state)

-- `set_len_m` with a second look.
unfoldable pub set_len_twice_m : List ℕ → Geometry → ℕ → ℕ → ℕ → World → Outcome None World
set_len_twice_m plan g slot generation len w =
    on_handle slot generation tt w (look_again_m slot generation (data_truncate_m plan g slot len w.dev) len w.state)

-- For every plan, device, pool and handle the call with a second look is the call without it: the same number, and the same left behind.
abbrev pub WriteTwiceSame : Type 0
WriteTwiceSame =
    (plan : List ℕ) (g : Geometry) (slot generation pos : ℕ) (src : List ℕ) (w : World)
    → write_twice_m plan g slot generation pos src w ≡ write_at_m plan g slot generation pos src w

abbrev pub SetLenTwiceSame : Type 0
SetLenTwiceSame =
    (plan : List ℕ) (g : Geometry) (slot generation len : ℕ) (w : World)
    → set_len_twice_m plan g slot generation len w ≡ set_len_m plan g slot generation len w

-- 6 comes back exactly where the handle is stale when the call begins: no device call comes to it, and no later look gives it.
abbrev pub WriteSix : Type 0
WriteSix =
    (plan : List ℕ) (g : Geometry) (slot generation pos : ℕ) (src : List ℕ) (w : World)
    → (write_at_m plan g slot generation pos src w).out ≡ 6 ↔ is_live slot generation w.state.rows ≡ false

abbrev pub SetLenSix : Type 0
SetLenSix =
    (plan : List ℕ) (g : Geometry) (slot generation len : ℕ) (w : World)
    → (set_len_m plan g slot generation len w).out ≡ 6 ↔ is_live slot generation w.state.rows ≡ false
