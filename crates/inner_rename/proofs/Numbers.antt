-- The number that a rename comes to is one of 01's, and that of its device calls once it goes on to them.
use Prim.Native.Nat.{ℕ}
use native.Mathlib.Omega.{arith}
use mathlib.Core.Bool.{cond}
use mathlib.Core.List.{List}
use lib.Dec.{eqb, ltb}
use lib.ListN.{length}
use Rattle.limits.specs.Limits.{max_path}
use Rattle.path.specs.Path.{same_path}
use Rattle.device.specs.declared.Geometry.{Geometry}
use Rattle.pool_state.specs.Numbers.{IsNumber}
use Rattle.pool_state.specs.State.{State}
use Rattle.pool_steps.specs.World.{World}
use Rattle.pool_steps.specs.Steps.{fine_m, release_m}
use Rattle.pool_steps.proofs.Numbers.{LastO, LastW, either, number, put_last, release_last}
use Rattle.pool_steps.specs.Outcome.{None, Out, by_device, outcome}
use Rattle.inner_open.specs.Files.{is_file, room}
use Rattle.inner_open.proofs.Numbers.{room_number}
use Rattle.inner_rename.specs.declared.Course.{Course}
use Rattle.inner_rename.specs.Rename.{front_m, needs, rebind_m, rename_m, renamed_m, settled_m, stopped, vacated_m}

abbrev OutC : Course → Type 0
OutC c = IsNumber c.out

front_number : (from to : List ℕ) (s : State) → OutC (front_m from to s)
unfolding front_m
front_number from to s =
    let n = room (needs to s) to s in
    let h : IsNumber n = room_number (needs to s) to s.chosen.dir_rows s.dirs s.counter in
    either OutC (ltb max_path (length to)) {x = stopped 4} (omega arith)
    (either OutC (same_path from to) {x = stopped (cond (is_file from s) 0 5)} (either IsNumber (is_file from s) (omega arith) (omega arith))
    (either OutC (is_file from s) {y = stopped 5} (either OutC (eqb n 0) {y = stopped n} (omega arith) h) (omega arith)))

module _ (plan : List ℕ) (g : Geometry) where
  rebind_last : (i : ℕ) (to : List ℕ) (w : World) → LastW (rebind_m plan g i to w)
  unfolding rebind_m
  rebind_last i to w = put_last plan g i _ w.dev

  vacated_last : (j : ℕ) (w : World) → LastW w → LastW (vacated_m plan g j w)
  unfolding vacated_m
  vacated_last j w h = either LastW (ltb j (length w.state.rows)) {x = release_m plan g j w} {y = w} (release_last plan g j w) h

  pub renamed_last : (i j : ℕ) (to : List ℕ) (w : World) → LastO (renamed_m plan g i j to w)
  unfolding renamed_m settled_m
  renamed_last i j to w =
      let v = rebind_m plan g i to w in
      let h = rebind_last i to w in
      either LastO (fine_m v.dev) {y = by_device v} (vacated_last j v h) h

  pub rename_number : (from to : List ℕ) (w : World) → Out (rename_m plan g from to w)
  unfolding rename_m
  rename_number from to w =
      let f = front_m from to w.state in
      either Out f.go {x = renamed_m plan g f.from f.to to w} {y = outcome {R = None} f.out tt w}
      (number (renamed_last f.from f.to to w)) (front_number from to w.state)
