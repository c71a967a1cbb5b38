-- What the survey of a first mount comes to, before anything is refused: the directories are the ancestors of the claims, no slot loses
-- where no two claim one path, and the counter is as high as the highest header wants it.
use Prim.Native.Nat.{ℕ, zero, suc, ◌+◌, ◌≤◌, ◌<◌, max}
use native.Mathlib.Omega.{arith}
use native.Mathlib.Decide.{ℕ_discrete}
use mathlib.Core.Path.{◌≡◌, refl, sym, ap, subst, ◌∙◌}
use mathlib.Core.Logic.{◌≢◌}
use mathlib.Core.Bool.{true, false, false≢true}
use mathlib.Core.List.Memᴰ
use mathlib.Core.List.{List, [], ◌∷◌}
use lib.ListN.{length}
use Rattle.lists.specs.Runs.{tab}
use Rattle.lists.specs.Distinct.{In}
use Rattle.path.specs.Path.{same_path}
use Rattle.device.specs.declared.Geometry.{Geometry}
use Rattle.device.specs.Device.{Dev, Shape}
use Rattle.pool_state.specs.declared.Chosen.{Chosen}
use Rattle.pool_steps.specs.World.{World, world}
use Rattle.mount_survey.specs.Heads.{Head, claim}
use Rattle.mount_survey.specs.Staged.{wants, wanted_of}
use Rattle.mount_survey.specs.Survey.{Survey}
use Rattle.mount_survey.proofs.Surveyed.{scan_counter}
use Rattle.pool_steps.specs.Outcome.{Outcome, None}
use Rattle.mount.specs.Mount.{installed, empty_state, mount_m}
use Rattle.promises_model.specs.Model.{Kit}
use Rattle.promises_model.specs.Model as M
use Rattle.promises_model.specs.Best as B
use Rattle.promises_model.proofs.Dirs.{dirs_of_registered, survey_dirs}
use Rattle.promises_model.proofs.Pool.{empty_pool}
use Rattle.promises_mount.specs.Words.{header_at, Untouched, Registered, surveyed, standing}
use Rattle.promises_mount.proofs.Kit.{looks, planned, real_kit}
use Rattle.promises_mount.proofs.Bridge.{shown}
use Rattle.promises_mount.proofs.Adopt.{drain_dirs, survey_is, surveyed_is}
use Rattle.promises_mount.proofs.Words.{head_from, registered_are}
use Rattle.promises_mount.proofs.Mount.{empty_dirs, mount_is}
use Rattle.promises_mount.proofs.Alone.{Apart, no_loser}

-- ---- the counter

-- the counter c after k headers f from n on, from the counter b on
pub record Counts (f : ℕ → Head) (n k b c : ℕ) : Type 0 where
  pub start : b ≤ c
  pub each : (i : ℕ) → n ≤ i → i < n + k → wants (f i) ≤ c
  pub most : (x : ℕ) → b ≤ x → ((i : ℕ) → n ≤ i → i < n + k → wants (f i) ≤ x) → c ≤ x

-- what all of them want is what the highest of them wants
wanted_each : (f : ℕ → Head) (k n i : ℕ) → n ≤ i → i < n + k → wants (f i) ≤ wanted_of (tab f n k)
unfolding wanted_of tab
wanted_each f zero n i a l = absurd (omega arith)
wanted_each f (suc k) n i a l = go (ℕ_discrete i n) (wanted_each f k (suc n) i)
  where
    rest : ℕ
    rest = wanted_of (tab f (suc n) k)

    go : Dec (i ≡ n) → (suc n ≤ i → i < suc n + k → wants (f i) ≤ rest) → wants (f i) ≤ max (wants (f n)) rest
    go (yes q) more = omega (arith, ap (λ (j : ℕ). wants (f j)) q)
    go (no q) more = omega (arith, more (omega arith) (omega arith))

wanted_most : (f : ℕ → Head) (k n x : ℕ) → ((i : ℕ) → n ≤ i → i < n + k → wants (f i) ≤ x) → wanted_of (tab f n k) ≤ x
unfolding wanted_of tab
wanted_most f zero n x h = omega arith
wanted_most f (suc k) n x h =
    omega (arith, h n (omega arith) (omega arith), wanted_most f k (suc n) x (λ i a l. h i (omega arith) (omega arith)))

wanted_counts : (f : ℕ → Head) (n k b c : ℕ) → c ≡ max b (wanted_of (tab f n k)) → Counts f n k b c
wanted_counts f n k b c e = record {
  start = omega (arith, e);
  each = λ i a l. omega (arith, e, wanted_each f k n i a l);
  most = λ x h a. omega (arith, e, wanted_most f k n x a);
}

-- ---- the survey of a first mount

module _ (g : Geometry) (plan : List ℕ) (h : Chosen) (k : ℕ) (d : Dev) (s : Shape g d.bytes d.phys) (u : Untouched plan 0 k d)
    (room : k ≤ length d.phys) where
  abbrev K : Kit
  K = real_kit g

  abbrev H : ℕ → Head
  H = header_at g d

  abbrev start : World
  start = world d (empty_state h)

  abbrev v : Survey
  v = surveyed plan g k start

  pub first_counts : Counts H 0 k 1 v.counter
  unfolding empty_state
  first_counts =
      let e = surveyed_is g plan k start s (empty_dirs h) u (omega arith) in
      wanted_counts H 0 k 1 v.counter (ap (λ (x : Survey). x.counter) e ∙ scan_counter (tab H 0 k) [] [] 1)

  -- the model's survey
  abbrev first : M.State K
  first = M.survey K k (M.empty K (planned plan d))

  first_is : first ≡ shown g plan (looks plan k d) [] v
  unfolding empty_state
  first_is = survey_is g plan k start s (empty_dirs h) u (omega arith) []

  pub first_dirs : Registered H k v.dirs
  first_dirs =
      let r =
      subst (B.Registered K (K.head (planned plan d)) k) (sym (survey_dirs K k (M.empty K (planned plan d))))
      (dirs_of_registered K (K.head (planned plan d)) k) in
      registered_are g H k v.dirs (subst (λ (x : M.State K). B.Registered K (K.head (planned plan d)) k x.dirs) first_is r)

  -- a mount that came to 0 leaves these directories
  pub mount_dirs : (mount_m plan g h k d).out ≡ 0 → Registered H k (mount_m plan g h k d).left.state.dirs
  unfolding standing installed
  mount_dirs z =
      let e = ap (λ (o : Outcome None World). o.left.state.dirs) (mount_is g plan h k d s u z) in
      subst (Registered H k) (sym (e ∙ drain_dirs g plan v.losers (standing plan g k start))) first_dirs

  -- none loses where no two slots claim one path
  module _
      (apart : (i j : ℕ) (p q : List ℕ) (e f l n : ℕ) → i < k → j < k → i ≢ j → H i ≡ claim p e l → H j ≡ claim q f n
      → same_path p q ≡ false) where
    alone : Apart K (K.head (planned plan d)) (0 + k)
    alone i j c e a b hi hj same = go (ℕ_discrete i j)
      where
        go : Dec (i ≡ j) → i ≡ j
        go (yes z) = z
        go (no z) =
            let p = head_from (H i) c hi in
            let q = head_from (H j) e hj in
            absurd (false≢true (sym (apart i j _ _ _ _ _ _ (omega arith) (omega arith) z p q) ∙ same))

    none_loses : (i : ℕ) → In i first.losers → ⊥
    none_loses =
        no_loser K k (K.head (planned plan d)) 0 k (M.empty K (planned plan d)) (empty_pool K k (planned plan d) (s, room)) (omega arith)
        alone

    pub first_losers : v.losers ≡ []
    first_losers = ap (λ (x : M.State K). x.losers) (sym first_is) ∙ go first.losers none_loses
      where
        go : (ls : List ℕ) → ((i : ℕ) → In i ls → ⊥) → ls ≡ []
        go [] f = refl
        go (x ∷ ls) f = absurd (f x (Memᴰ.head refl))
