-- "A pool stays a pool" after create_dir_all and sync_dir, and the numbers that the calls come to.
use Prim.Native.Nat.{ℕ, zero, suc, ◌+◌, ◌≤◌, ◌<◌}
use native.Mathlib.Omega.{arith}
use mathlib.Core.Path.{◌≡◌, refl}
use mathlib.Core.Logic.{inl}
use mathlib.Core.Bool.{Bool, true, false, cond}
use mathlib.Core.List.{List, [], ◌∷◌}
use lib.Dec.{eqb, ltb}
use lib.ListN.{length, length-set}
use borrow.Author.Tests.{ltb-false}
use Rattle.limits.specs.Limits.{max_path}
use Rattle.lists.specs.Runs.{range}
use Rattle.path.specs.Path.{normal, ancestors}
use Rattle.device.specs.declared.Geometry.{Geometry}
use Rattle.slot_rows.specs.Rows.{at, cleaned}
use Rattle.dir_rows.specs.Dirs.{registered_with}
use Rattle.dir_rows.proofs.Joined.{joined_short}
use Rattle.dir_rows.proofs.Registering.{path_short, registered_with_dirs}
use Rattle.pool_state.specs.Numbers.{IsNumber}
use Rattle.pool_state.specs.State.{State, Valid}
use Rattle.pool_state.specs.Changes.{with_row, with_dirs, with_dirs_valid}
use Rattle.pool_steps.specs.World.{World, Fit}
use Rattle.pool_steps.specs.Steps.{fine_m, put_m, row_block, sync_row_m}
use Rattle.pool_steps.proofs.Stays.{sync_row_fit}
use Rattle.pool_steps.proofs.Numbers.{LastO, either, number, sync_row_last}
use Rattle.pool_steps.specs.Outcome.{Outcome, outcome, None, Out}
use Rattle.inner_dirs.specs.Folders.{too_long, create_dir_all_m, exists_m, metadata_m, is_due, sync_one_m, sync_each_m, sync_dir_m}

-- ---- create_dir_all

module _ (path : List ℕ) (s : State) where
  abbrev dirs_then : List (List ℕ)
  dirs_then = registered_with s.dirs path

  pub create_dir_all_valid : Valid s → Valid (create_dir_all_m path s).left
  unfolding create_dir_all_m
  create_dir_all_valid ok = go (too_long path) (ltb s.chosen.dir_rows (length dirs_then)) refl refl
    where
      go : (a b : Bool) → too_long path ≡ a → ltb s.chosen.dir_rows (length dirs_then) ≡ b
          → Valid (cond a (outcome {R = None} 4 tt s) (cond b (outcome 8 tt s) (outcome 0 tt (with_dirs dirs_then s)))).left
      go true b x y = ok
      go false true x y = ok
      go false false x y =
          with_dirs_valid s dirs_then ok (ltb-false s.chosen.dir_rows (length dirs_then) y)
          (record {
            short = joined_short s.dirs (normal path ∷ ancestors path) ok.directories.short (path_short path (ltb-false max_path _ x));
            dirs = registered_with_dirs s.dirs path ok.directories.dirs;
          })

  pub create_dir_all_number : IsNumber (create_dir_all_m path s).out
  unfolding create_dir_all_m
  create_dir_all_number =
      either Out (too_long path) (omega arith)
      (either Out (ltb s.chosen.dir_rows (length dirs_then)) (omega arith) (omega arith))

  -- ---- metadata

  pub metadata_number : IsNumber (metadata_m path s).out
  unfolding metadata_m
  metadata_number = either IsNumber (exists_m path s) {x = 0} {y = 5} (omega arith) (omega arith)

-- ---- sync_dir

module _ (plan : List ℕ) (g : Geometry) where
  module _ (path : List ℕ) where
    -- One slot of the call keeps the pool,
    pub sync_one_fit : (i : ℕ) (w : World) → Fit g w → i < length w.state.rows → Fit g (sync_one_m plan g path i w).left
    unfolding sync_one_m
    sync_one_fit i w f h = either (λ (o : Outcome None World). Fit g o.left) (is_due path (at w.state.rows i)) (sync_row_fit plan g i w f h) f

    -- and holds as many slots,
    one_rows : (i : ℕ) (w : World) → length (sync_one_m plan g path i w).left.state.rows ≡ length w.state.rows
    unfolding sync_one_m sync_row_m with_row
    one_rows i w =
        either (λ (o : Outcome None World). length o.left.state.rows ≡ length w.state.rows) (is_due path (at w.state.rows i))
        (either (λ (s : State). length s.rows ≡ length w.state.rows) (fine_m (put_m plan g i (row_block (at w.state.rows i)) w.dev)) (length-set w.state.rows i (cleaned (at w.state.rows i))) refl)
        refl

    each_fit : (i k : ℕ) (w : World) → Fit g w → i + k ≤ length w.state.rows → Fit g (sync_each_m plan g path (range i k) w).left
    unfolding sync_each_m range
    each_fit i zero w f h = f
    each_fit i (suc k) w f h =
        let o : Fit g (sync_one_m plan g path i w).left = sync_one_fit i w f (omega arith) in
        either (λ (x : Outcome None World). Fit g x.left) (eqb (sync_one_m plan g path i w).out 0)
        (each_fit (suc i) k (sync_one_m plan g path i w).left o (omega (arith, one_rows i w))) o

    -- so that the whole does.
    pub sync_dir_fit : (w : World) → Fit g w → Fit g (sync_dir_m plan g path w).left
    unfolding sync_dir_m
    sync_dir_fit w f = each_fit 0 (length w.state.rows) w f (omega arith)

    one_last : (i : ℕ) (w : World) → LastO (sync_one_m plan g path i w)
    unfolding sync_one_m
    one_last i w = either LastO (is_due path (at w.state.rows i)) (sync_row_last plan g i w) (inl refl)

    each_last : (is : List ℕ) (w : World) → LastO (sync_each_m plan g path is w)
    unfolding sync_each_m
    each_last [] w = inl refl
    each_last (i ∷ is) w =
        either LastO (eqb (sync_one_m plan g path i w).out 0) (each_last is (sync_one_m plan g path i w).left) (one_last i w)

    -- Its number is always a device call's.
    pub sync_dir_last : (w : World) → LastO (sync_dir_m plan g path w)
    unfolding sync_dir_m
    sync_dir_last w = each_last (range 0 (length w.state.rows)) w

    pub sync_dir_number : (w : World) → IsNumber (sync_dir_m plan g path w).out
    sync_dir_number w = number (sync_dir_last w)

    each_none : (is : List ℕ) (w : World) → ((i : ℕ) → is_due path (at w.state.rows i) ≡ false) → sync_each_m plan g path is w ≡ outcome 0 tt w
    unfolding sync_each_m sync_one_m
    each_none [] w n = refl
    each_none (i ∷ is) w n = rw (n i) (each_none is w n)

    -- Where no file is due there is no device call: all stays.
    pub sync_dir_none : (w : World) → ((i : ℕ) → is_due path (at w.state.rows i) ≡ false) → sync_dir_m plan g path w ≡ outcome 0 tt w
    unfolding sync_dir_m
    sync_dir_none w n = each_none (range 0 (length w.state.rows)) w n
