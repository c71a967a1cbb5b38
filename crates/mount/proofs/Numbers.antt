-- The number that a mount or an adoption comes to is one of 01's.
use Prim.Native.Nat.{ℕ, ◌+◌}
use native.Mathlib.Omega.{arith}
use mathlib.Core.List.{List}
use lib.Dec.{ltb}
use lib.ListN.{length}
use Rattle.limits.specs.Limits.{last_counter}
use Rattle.device.specs.declared.Geometry.{Geometry}
use Rattle.device.specs.Device.{Dev}
use Rattle.pool_state.specs.declared.Chosen.{Chosen}
use Rattle.pool_steps.specs.World.{World, world}
use Rattle.pool_steps.proofs.Numbers.{either}
use Rattle.pool_steps.specs.Outcome.{Out}
use Rattle.mount_survey.specs.Heads.{reads_m}
use Rattle.mount_survey.specs.Survey.{Survey, scan}
use Rattle.mount.specs.Mount.{adopt_m, after_reads, begin, empty_state, mount_m, moved, settle, too_many}

module _ (plan : List ℕ) (g : Geometry) where
  settle_number : (v : Survey) (w : World) → Out (settle plan g v w)
  unfolding settle
  settle_number v w =
      either Out (ltb w.state.chosen.dir_rows (length v.dirs)) (omega arith)
      (either Out (ltb last_counter (v.counter + length v.losers)) (omega arith) (omega arith))

  pub adopt_number : (k : ℕ) (w : World) → Out (adopt_m plan g k w)
  unfolding adopt_m after_reads
  adopt_number k w =
      let r = reads_m plan g (length w.state.rows) k w.dev in
      either Out (too_many k w) (omega arith) (either Out r.failed (omega arith) (settle_number (scan r.heads (begin w.state)) (moved r.place w)))

  pub mount_number : (chosen : Chosen) (k : ℕ) (d : Dev) → Out (mount_m plan g chosen k d)
  unfolding mount_m
  mount_number chosen k d = adopt_number k (world d (empty_state chosen))
