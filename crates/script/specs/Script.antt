-- A script, run over a small pool of its own: docs/EXPORTS.md, "pool_script". What it puts out is one list, and nothing where its setup isn't whole.
use Rattle.std.specs.Prelude.{ℕ, ◌*◌, List, [], ◌∷◌, ◌++◌, Some, None, length, replicate}
use Rattle.limits.specs.Limits.{max_path, row_width, dir_width}
use Rattle.lists.specs.Runs.{tab}
use Rattle.device.specs.declared.Geometry.{Geometry}
use Rattle.device.specs.declared.Place.{Place}
use Rattle.device.specs.Device.{dev}
use Rattle.pool_state.specs.State.{bufs}
use Rattle.pool_steps.specs.World.{Lent, lent}
use Rattle.mount.specs.Mount.{zero_pool}
use Rattle.output.specs.Writer.{Shown, pours}
use Rattle.script_format.specs.declared.Op.{Op}
use Rattle.script_format.specs.declared.Setup.{Setup}
use Rattle.script_format.specs.Format.{run_in, operations, setup_at, length_at, Patching, patched_m}
use Rattle.script_tables.specs.Tables.{record_shown, device_shown}
use Rattle.script_step.specs.Operate.{Said, said, op_m, Reached, reached}

-- ---- operations, one after the other

abbrev pub followed : Said → Said → Said
followed a b = said (a.answer ++ b.answer) b.left

unfoldable pub run_m : List ℕ → List ℕ → Geometry → List Op → Lent → Said
run_m s plan g [] l = said [] l
run_m s plan g (o ∷ os) l = followed (op_m s plan g o l) (run_m s plan g os (op_m s plan g o l).left)

-- ---- "Tables after the last answer"

unfoldable pub whole : Said → List ℕ
whole x = x.answer ++ record_shown x.left.bufs ++ device_shown x.left.dev

-- Output and buffers after the tables.
unfoldable pub closed : Said → Shown → Reached
closed x o = reached (pours (whole x) o) x.left

-- ---- the setup

abbrev pub geometry_of : Setup → Geometry
geometry_of u = record { size = u.size }

abbrev pub start_place : Place
start_place = record { at = 0; last = 0 }

abbrev pub zeros : ℕ → List ℕ
zeros n = replicate n 0

-- "The device is zero elsewhere."
unfoldable pub patched_device : List ℕ → Setup → Patching
patched_device s u = patched_m s u.count u.patches (zeros (u.slots * u.size))

-- What is lent at the start: the device's bytes d, the physical lengths h, and the rows. "No pool is mounted at the start: the record is zero."
unfoldable pub start_m : Setup → List ℕ → List ℕ → Lent
start_m u d h = lent (dev d h start_place) (bufs zero_pool (zeros (u.rows * row_width)) (zeros (u.rows * max_path)) (zeros (u.dir_rows * dir_width)))

-- The operations from i on, from that start.
unfoldable pub ran_m : List ℕ → Setup → List ℕ → List ℕ → ℕ → Said
ran_m s u d h i = run_m s (run_in s u.plan) (geometry_of u) (operations (length s) s i) (start_m u d h)

-- ---- the script

-- "setup, then operations to the end": these start behind the patches, if all of them are whole and inside of the device.
unfoldable pub behind_setup : List ℕ → Setup → Patching → List ℕ
behind_setup s u p =
    elim (p.behind) [
      | None ↦ []
      | Some i ↦ whole (ran_m s u p.bytes (tab (length_at s u.phys) 0 u.slots) i)
    ]

-- The whole output: none "if the setup isn't whole .. or passes the script's own limits".
unfoldable pub script_m : List ℕ → List ℕ
script_m s = elim (setup_at s) [ None ↦ [] | Some u ↦ behind_setup s u (patched_device s u) ]
