-- The turns of the loop over the operations, and what comes behind it.
use Prim.Native.Nat.{ℕ, zero, suc, ◌+◌, ◌-◌, ◌*◌, ◌<◌, ◌≤◌}
use mathlib.Core.Path.{◌≡◌, refl, sym, ap, ap₂, ◌∙◌}
use mathlib.Core.List.{List, [], ◌∷◌, ◌++◌}
use native.Mathlib.Omega.{arith}
use Rattle.std.specs.Prelude.{Option, Some, None, IfSome}
use Rattle.std.specs.Bool.{⊤}
use Rattle.std.proofs.lemmas.Option.{MatchOption-at_some}
use lib.ListN.{length, take, drop}
use lib.Seq.{take_at}
use Rattle.limits.specs.Limits.{max_path, row_width, dir_width}
use Rattle.lists.specs.Runs.{tab}
use Rattle.le.specs.Le.{Bytes}
use Rattle.device.specs.declared.Geometry.{Geometry}
use Rattle.device.specs.Device.{dev}
use Rattle.pool_state.specs.declared.Pool.{Pool}
use Rattle.pool_state.specs.State.{bufs}
use Rattle.mount.specs.Mount.{zero_pool}
use Rattle.pool_steps.specs.World.{Lent, lent}
use Rattle.output.specs.Writer.{Shown, shown, pours, poured}
use Rattle.output.proofs.InParts.{pours_none, pours_append, pours_all, pours_then}
use Rattle.script_format.specs.declared.Op.{Op}
use Rattle.script_format.specs.declared.Setup.{Setup}
use Rattle.script_format.specs.Format.{run_in, op_at, operations, setup_at, length_at, Patching, patching, patch_at, patched_m}
use Rattle.script_format.specs.Reading.{patch_end, Sound, op_sound}
use Rattle.script_tables.specs.Tables.{record_shown, device_shown}
use Rattle.script_step.specs.Operate.{Said, op_m, Reached, reached, spoken}
use Rattle.script.specs.Script.{run_m, whole, closed, geometry_of, start_place, zeros, patched_device, start_m, ran_m, behind_setup, script_m}

-- ---- operations that are read one by one

pub ops_end : (k : ℕ) (s : List ℕ) (i : ℕ) → op_at s i ≡ None → operations k s i ≡ []
unfolding operations
ops_end zero s i h = refl
ops_end (suc k) s i h = rw (h, operations)

pub ops_more : (k : ℕ) (s : List ℕ) (i : ℕ) (o : Op) → 0 < k → op_at s i ≡ Some o → operations k s i ≡ o ∷ operations (k - 1) s o.second.to
unfolding operations
ops_more zero s i o l h = absurd (omega arith)
ops_more (suc k) s i o l h = let e : suc k - 1 ≡ k = omega arith in rw (h, operations, e)

-- ---- and run one by one

module _ (s plan : List ℕ) (g : Geometry) (k i : ℕ) where
  -- none is left
  pub run_end : (l : Lent) (t : Shown) → None ≡ op_at s i → reached t l ≡ spoken (run_m s plan g (operations k s i) l) t
  unfolding run_m spoken
  run_end l t e = rw (ops_end k s i (sym e)) (ap (λ (u : Shown). reached u l) (sym (pours_none t)))

  -- one was run: it and those behind it are the whole
  pub run_turn : (o : Op) (l l' : Lent) (t t' : Shown) → 0 < k → Some o ≡ op_at s i → reached t' l' ≡ spoken (op_m s plan g o l) t
      → spoken (run_m s plan g (operations (k - 1) s o.second.to) l') t' ≡ spoken (run_m s plan g (operations k s i) l) t
  unfolding run_m spoken
  run_turn o l l' t t' p e f =
      let x : Said = op_m s plan g o l in
      let ops : List Op = operations (k - 1) s o.second.to in
      let et : t' ≡ pours x.answer t = ap (λ (r : Reached). r.shown) f in
      let el : l' ≡ x.left = ap (λ (r : Reached). r.lent) f in
      let m : operations k s i ≡ o ∷ ops = ops_more k s i o p (sym e) in
      ap₂ (λ (u : Shown) (y : Lent). spoken (run_m s plan g ops y) u) et el
      ∙ ap (λ (u : Shown). reached u (run_m s plan g ops x.left).left) (pours_append x.answer (run_m s plan g ops x.left).answer t)
      ∙ ap (λ (q : List Op). spoken (run_m s plan g q l) t) (sym m)

-- ---- the tables behind them

pub tables_are : (x : Said) (t t₁ t₂ t₃ : Shown) (l : Lent) → reached t₁ l ≡ spoken x t → t₂ ≡ pours (record_shown l.bufs) t₁ → t₃ ≡ pours (device_shown l.dev) t₂
    → reached t₃ l ≡ closed x t
unfolding spoken closed whole
tables_are x t t₁ t₂ t₃ l e f g =
    let et : t₁ ≡ pours x.answer t = ap (λ (r : Reached). r.shown) e in
    let el : l ≡ x.left = ap (λ (r : Reached). r.lent) e in
    ap₂ reached (pours_then (x.answer ++ record_shown l.bufs) (device_shown l.dev) t (pours_then x.answer (record_shown l.bufs) t et f) g
    ∙ ap (λ (y : Lent). pours (x.answer ++ record_shown y.bufs ++ device_shown y.dev) t) el) el

pub closed_parts : (x : Said) (o t : Shown) (l : Lent) → reached t l ≡ closed x o → (t ≡ pours (whole x) o) × (l.dev.bytes ≡ x.left.dev.bytes) × (l.dev.phys ≡ x.left.dev.phys)
unfolding closed
closed_parts x o t l e = (ap (λ (r : Reached). r.shown) e, ap (λ (r : Reached). r.lent.dev.bytes) e, ap (λ (r : Reached). r.lent.dev.phys) e)

-- ---- the start

pub rows_are : (s : List ℕ) (u : Setup) (d h : List ℕ) (i : ℕ) (q : Pool) (l n e : List ℕ) → q ≡ zero_pool → l ≡ zeros (u.rows * row_width) → n ≡ zeros (u.rows * max_path) → e ≡ zeros (u.dir_rows * dir_width)
    → run_m s (run_in s u.plan) (geometry_of u) (operations (length s) s i) (lent (dev d h start_place) (bufs q l n e)) ≡ ran_m s u d h i
unfolding ran_m start_m
rows_are s u d h i q l n e eq el en ee = rw (eq, el, en, ee)

-- The operations start inside of the script.
pub patched_end : (s : List ℕ) (k i : ℕ) (d : List ℕ) → i ≤ length s → IfSome (patched_m s k i d).behind (λ j. j ≤ length s)
unfolding patched_m
patched_end s zero i d h = h
patched_end s (suc k) i d h = go (patch_at s i d).behind (patch_end s i d) (λ j y. patched_end s k j (patch_at s i d).bytes y)
  where
    go : (r : Option ℕ) → IfSome r (λ j. j ≤ length s) → ((j : ℕ) → j ≤ length s → IfSome (patched_m s k j (patch_at s i d).bytes).behind (λ m. m ≤ length s))
        → IfSome (elim r as (λ _. Patching) [ None ↦ patching None (patch_at s i d).bytes | Some j ↦ patched_m s k j (patch_at s i d).bytes ]).behind (λ j. j ≤ length s)
    go None z f = tt
    go (Some j) z f = f j z

module _ (s : List ℕ) (u : Setup) (r : Option ℕ) (d d₀ : List ℕ) (e : patching r d ≡ patched_m s u.count u.patches d₀) (z : d₀ ≡ zeros (u.slots * u.size)) where
  patched_is : patching r d ≡ patched_device s u
  unfolding patched_device
  patched_is = e ∙ ap (patched_m s u.count u.patches) z

  pub device_none : (o : Shown) → r ≡ None → o ≡ pours (behind_setup s u (patched_device s u)) o
  unfolding behind_setup
  device_none o h = rw (← patched_is, h) (sym (pours_none o))

  pub device_run : (i : ℕ) (h : List ℕ) (n : ℕ) → h ≡ tab (length_at s u.phys) 0 n → n ≡ u.slots → r ≡ Some i → whole (ran_m s u d h i) ≡ behind_setup s u (patched_device s u)
  unfolding behind_setup
  device_run i h n f g w = rw (← patched_is, w, f, g)

  pub starts_inside : (i : ℕ) → r ≡ Some i → u.patches ≤ length s → i ≤ length s
  starts_inside i w h = MatchOption-at_some ⊤ (λ (j : ℕ). j ≤ length s) i (ap (λ (p : Patching). p.behind) (sym e) ∙ w) (patched_end s u.count u.patches d₀ h)

-- ---- the script

module _ (s out : List ℕ) where
  pub script_none : None ≡ setup_at s → shown out 0 ≡ poured (script_m s) out
  unfolding script_m
  script_none e = rw (← e, script_m) (sym (pours_none (shown out 0)) ∙ pours_all [] out)

  pub script_is : (u : Setup) (t : Shown) → Some u ≡ setup_at s → t ≡ pours (behind_setup s u (patched_device s u)) (shown out 0) → t ≡ poured (script_m s) out
  unfolding script_m
  script_is u t e f = f ∙ pours_all (behind_setup s u (patched_device s u)) out ∙ rw (← e, script_m)

-- ---- the loop

pub sound_of : (s : List ℕ) (i : ℕ) (o : Op) → Bytes s → Some o ≡ op_at s i → Sound s i o
sound_of s i o b e = MatchOption-at_some ⊤ (Sound s i) o (sym e) (op_sound s b i)

-- At place i, with l left and o put out: what is still to be run makes the whole.
pub record Going (s plan : List ℕ) (g : Geometry) (from : ℕ) (l₀ : Lent) (o₀ : Shown) (i : ℕ) (l : Lent) (o : Shown) : Type 0 where
  pub left : ℕ
  pub enough : length s - i ≤ left
  pub inside : i ≤ length s
  pub few : o.at ≤ i * 65600
  pub same : spoken (run_m s plan g (operations left s i) l) o ≡ spoken (run_m s plan g (operations (length s) s from) l₀) o₀

module _ (s plan : List ℕ) (g : Geometry) (from : ℕ) (l₀ : Lent) where
  pub going_start : (out : List ℕ) → from ≤ length s → Going s plan g from l₀ (shown out 0) from l₀ (shown out 0)
  going_start out h = record { left = length s; enough = omega arith; inside = h; few = omega arith; same = refl }

  module _ (o₀ : Shown) (i : ℕ) (l : Lent) (t : Shown) (G : Going s plan g from l₀ o₀ i l t) where
    pub going_end : None ≡ op_at s i → reached t l ≡ spoken (run_m s plan g (operations (length s) s from) l₀) o₀
    going_end e = run_end s plan g G.left i l t e ∙ G.same

    pub going_on : (o : Op) (l' : Lent) (t' : Shown) → Bytes s → Some o ≡ op_at s i → reached t' l' ≡ spoken (op_m s plan g o l) t → t'.at ≤ t.at + 65600 → Going s plan g from l₀ o₀ o.second.to l' t'
    going_on o l' t' b e f n =
        let S = sound_of s i o b e in
        record {
          left = G.left - 1;
          enough = omega (arith, G.enough, S.further);
          inside = S.held.second_end;
          few = omega (arith, G.few, n, S.further);
          same = run_turn s plan g G.left i o l l' t t' (omega (arith, G.enough, S.further, S.held.second_end)) e f ∙ G.same;
        }

-- a front that was lent and came back
pub front_back : (n : ℕ) (b w : List ℕ) → length b ≡ n → take n (b ++ drop n w) ≡ b
front_back n b w e = take_at b (drop n w) n e
