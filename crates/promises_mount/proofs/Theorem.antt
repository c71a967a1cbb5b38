-- The promises of specs/Mounts.antt. The model's demand carries them: Adopt says that each call is the model's, and Words puts what is
-- promised of the model into the words of real rows and headers.
use Prim.Native.Nat.{ℕ, ◌+◌, ◌≤◌, min}
use native.Mathlib.Omega.{arith}
use mathlib.Core.Path.{◌≡◌, refl, sym, ap, subst, ◌∙◌}
use mathlib.Core.Logic.{◌↔◌, inl, inr}
use mathlib.Core.List.{List, []}
use lib.ListN.{length, length-map}
use Rattle.lists.specs.Distinct.{In}
use Rattle.device.specs.declared.Place.{Place}
use Rattle.device.specs.declared.Geometry.{Geometry}
use Rattle.device.specs.Device.{Dev, dev, Shape}
use Rattle.pool_state.specs.declared.Chosen.{Chosen}
use Rattle.pool_steps.specs.World.{World, world}
use Rattle.pool_steps.specs.Outcome.{Outcome, None, only}
use Rattle.mount.specs.Mount.{empty_state, mount_m}
use Rattle.promises_model.specs.Model.{Kit}
use Rattle.promises_model.specs.Model as M
use Rattle.promises_model.specs.Best as B
use Rattle.promises_model.specs.Promise as P
use Rattle.promises_model.proofs.Pool.{Pool, empty_pool, mount_pool}
use Rattle.promises_model.proofs.Again.{now}
use Rattle.promises_model.proofs.Split.{both_pool}
use Rattle.promises_model.proofs.Card.{Card, mount_card, adopt_card}
use Rattle.promises_model.proofs.Queue.{Calm, mount_calm, adopt_calm}
use Rattle.promises_model.proofs.Theorem.{demand_of_all, again_whatever_fails}
use Rattle.promises_mount.specs.Words.{header_at, Untouched, Faultless, SameFiles, SameDirs, SameFree}
use Rattle.promises_mount.specs.Words.{surveyed, standing, NoneFails}
use Rattle.promises_mount.specs.Mounts.{Trial, headers, empty_one, empty_two, whole, first_part, both, QuietWhole, QuietBoth, Given}
use Rattle.promises_mount.specs.Mounts.{Below62}
use Rattle.promises_mount.specs.Mounts.{TheRule, SplitIsOneMount, FreeSlotsSame, Again, later_dev, next_whole, next_part, next_both}
use Rattle.promises_mount.specs.Mounts.{MountAgainSame, AgainInParts}
use Rattle.promises_mount.proofs.Kit.{Planned, planned, said, real_kit}
use Rattle.promises_mount.proofs.Bridge.{plain, shown_w}
use Rattle.promises_mount.proofs.Adopt.{Runs, accepted_runs, survey_is}
use Rattle.promises_mount.proofs.Mount.{empty_dirs, from_first, mount_runs, mount_accepts, mount_none}
use Rattle.promises_mount.proofs.Alone.{Apart, no_loser, calm_apart, none_released}
use Rattle.promises_mount.proofs.Faultless.{faultless_untouched, faultless_none_fails}
use Rattle.promises_mount.proofs.Again.{turned, next_accepts, next_files, next_dirs, next_free}
use Rattle.promises_mount.proofs.Words.{wants_is, rule_is, registered_are, files_are, dirs_are, free_are, none_is}

-- ---- two calls that are the model's

module _ (g : Geometry) (p q : List ℕ) {v w : World} {a b : Outcome None World} {x y : M.State (real_kit g)} (R : Runs g p v a x)
    (S : Runs g q w b y) where
  both_shown : (Q : M.State (real_kit g) → M.State (real_kit g) → Type 0) → Q x y
      → Q (shown_w g p R.losers a.left) (shown_w g q S.losers b.left)
  both_shown Q h = subst (λ z. Q z (shown_w g q S.losers b.left)) (sym R.shows) (subst (Q x) (sym S.shows) h)

  files_of_lem : P.SameFiles (real_kit g) x y → SameFiles a.left.state b.left.state
  files_of_lem h = files_are g p q R.losers S.losers a.left b.left (both_shown (P.SameFiles (real_kit g)) h)

  dirs_of_lem : P.SameDirs (real_kit g) x y → SameDirs a.left.state b.left.state
  dirs_of_lem h = dirs_are g p q R.losers S.losers a.left b.left (both_shown (P.SameDirs (real_kit g)) h)

  free_of : P.SameFree (real_kit g) x y → SameFree a.left.state b.left.state
  free_of h = free_are g p q R.losers S.losers a.left b.left (both_shown (P.SameFree (real_kit g)) h)

-- ---- a trial

module _ (t : Trial) (G : Given t) where
  abbrev g : Geometry
  g = t.geometry

  abbrev K' : Kit
  K' = real_kit g

  abbrev device_one : Planned
  device_one = planned t.plan_one (empty_one t).dev

  abbrev device_two : Planned
  device_two = planned t.plan_two (empty_two t).dev

  abbrev slots : ℕ
  slots = min t.chosen.rows (length t.phys)

  abbrev dir_rows : ℕ
  dir_rows = t.chosen.dir_rows

  abbrev model_whole : M.State K'
  model_whole = M.mount K' (t.n + t.m) device_one

  abbrev model_part : M.State K'
  model_part = M.mount K' t.n device_two

  abbrev model_both : M.State K'
  model_both = M.adopt K' t.m model_part

  abbrev Has : Planned → Type 0
  Has w = Shape g w.dev.bytes w.dev.phys × (slots ≤ length w.dev.phys)

  has : Has device_one
  has = (G.shape, omega arith)

  accepts : M.Accepts K' slots dir_rows (t.n + t.m) (M.empty K' device_one)
  accepts = mount_accepts g t.plan_one t.chosen (t.n + t.m) (empty_one t).dev G.shape G.reads_whole G.accepted

  room : t.n + t.m ≤ slots
  room = omega (arith, accepts.slots_fit)

  kept : P.Kept K' t.n t.m device_one device_two slots dir_rows
  unfolding P.DemandOfAll header_at
  kept = demand_of_all K' slots dir_rows t.n t.m device_one device_two has has (λ i l. refl) accepts

  returns : P.Returns K' slots dir_rows (t.n + t.m) device_one model_whole
      × P.Returns K' slots dir_rows (t.n + t.m) device_one model_both
  unfolding P.AgainWhateverFails header_at
  returns = again_whatever_fails K' slots dir_rows t.n t.m device_one device_two has has (λ i l. refl) accepts

  -- each call is the model's
  whole_runs : Runs g t.plan_one (empty_one t) (whole t) model_whole
  whole_runs =
      mount_runs g t.plan_one t.chosen (t.n + t.m) (empty_one t).dev G.shape G.reads_whole slots (omega arith)
      (omega arith) accepts

  part_runs : Runs g t.plan_two (empty_two t) (first_part t) model_part
  part_runs =
      mount_runs g t.plan_two t.chosen t.n (empty_two t).dev G.shape G.reads_part slots (omega arith) (omega arith)
      kept.part_accepted

  -- the device that a call left
  left : {plan : List ℕ} {w : World} {c : Outcome None World} {s : M.State K'} → Runs g plan w c s → planned plan c.left.dev ≡ s.device
  left R = ap (λ (x : M.State K'). x.device) R.shows

  left_has : {plan : List ℕ} {w : World} {c : Outcome None World} {s : M.State K'} → Runs g plan w c s → Has s.device
      → Has (planned plan c.left.dev)
  left_has R h = subst Has (sym (left R)) h

  part_pool : Pool K' slots (K'.head device_two) t.n model_part
  part_pool = mount_pool K' slots t.n device_two has (omega (arith, room))

  part_has : Has (planned t.plan_two (first_part t).left.dev)
  part_has = left_has part_runs part_pool.fit.has

  part_chosen : (first_part t).left.state.chosen ≡ t.chosen
  unfolding empty_state
  part_chosen = part_runs.chosen

  part_shown : M.Accepts K' slots (first_part t).left.state.chosen.dir_rows t.m
      (shown_w g t.plan_two part_runs.losers (first_part t).left)
  part_shown = rw part_chosen (subst (M.Accepts K' slots dir_rows t.m) (sym part_runs.shows) kept.both_accepted)

  part_size : length (first_part t).left.state.rows ≡ t.n
  part_size =
      sym (length-map (first_part t).left.state.rows plain) ∙ ap (λ (x : M.State K'). length x.rows) part_runs.shows
      ∙ part_pool.size

  reads_both : Untouched t.plan_two (length (first_part t).left.state.rows) t.m (first_part t).left.dev
  reads_both = subst (λ (i : ℕ). Untouched t.plan_two i t.m (first_part t).left.dev) (sym part_size) G.reads_both

  both_runs : Runs g t.plan_two (first_part t).left (both t) model_both
  both_runs =
      subst (λ (x : M.State K'). Runs g t.plan_two (first_part t).left (both t) (M.adopt K' t.m x)) part_runs.shows
      (accepted_runs g t.plan_two t.m (first_part t).left part_has.0 part_runs.dirs reads_both slots
      part_runs.losers (omega (arith, ap (λ (c : Chosen). c.rows) part_chosen)) part_has.1 part_shown)

  -- ---- the rule, and the split

  pub rules : TheRule t
  rules =
      let H = headers t in
      let k = t.n + t.m in
      let R = whole_runs in
      let S = both_runs in
      record {
        rule_whole =
            rule_is g H k (whole t).left.state.rows
            (subst (λ (x : M.State K'). B.Rule K' (K'.head device_one) k x.rows) (sym R.shows) kept.rule_whole);
        rule_both =
            rule_is g H k (both t).left.state.rows
            (subst (λ (x : M.State K'). B.Rule K' (K'.head device_one) k x.rows) (sym S.shows) kept.rule_both);
        dirs_whole =
            registered_are g H k (whole t).left.state.dirs
            (subst (λ (x : M.State K'). B.Registered K' (K'.head device_one) k x.dirs) (sym R.shows) kept.registered_whole);
        dirs_both =
            registered_are g H k (both t).left.state.dirs
            (subst (λ (x : M.State K'). B.Registered K' (K'.head device_one) k x.dirs) (sym S.shows) kept.registered_both);
      }

  pub split : SplitIsOneMount t
  split =
      let dirs : M.State K' → List (List ℕ) = λ x. x.dirs in
      record {
        part_accepted = part_runs.out;
        both_accepted = both_runs.out;
        files = files_of_lem g t.plan_two t.plan_one both_runs whole_runs kept.files;
        dirs = ap dirs both_runs.shows ∙ kept.dirs ∙ sym (ap dirs whole_runs.shows);
      }

  -- ---- where none fails

  quiet_whole : QuietWhole t → P.NoneFails K' (t.n + t.m) (M.empty K' device_one)
  quiet_whole =
      mount_none g t.plan_one t.chosen (t.n + t.m) (empty_one t).dev G.shape G.reads_whole (omega (arith, room))

  quiet_part : QuietBoth t → P.NoneFails K' t.n (M.empty K' device_two)
  quiet_part q =
      mount_none g t.plan_two t.chosen t.n (empty_two t).dev G.shape G.reads_part (omega (arith, room)) q.0

  quiet_both : QuietBoth t → P.NoneFails K' t.m model_part
  quiet_both q =
      let n = length-map (first_part t).left.state.rows plain in
      subst (P.NoneFails K' t.m) part_runs.shows
      (none_is g t.plan_two t.m (first_part t).left part_has.0 part_runs.dirs reads_both
      (omega (arith, n, part_shown.slots_fit, part_has.1)) part_runs.losers q.1)

  pub free_same : FreeSlotsSame t
  unfolding FreeSlotsSame
  free_same q r = free_of g t.plan_two t.plan_one both_runs whole_runs (kept.free (quiet_whole q) (quiet_part r) (quiet_both r))

  -- ---- mounting again

  module _ {plan : List ℕ} {w : World} {c : Outcome None World} {s : M.State K'} (R : Runs g plan w c s) (H : ℕ → M.Head (List ℕ))
      (Q : Pool K' slots H (t.n + t.m) s) (C : Card K' H s)
      (D : B.Registered K' H (t.n + t.m) s.dirs) (u : Untouched t.plan_three 0 (t.n + t.m) (later_dev t c)) where
    abbrev k : ℕ
    k = t.n + t.m

    -- the device that the call left, under the third plan, and mounted
    abbrev later : Dev
    later = dev c.left.dev.bytes c.left.dev.phys t.place_three

    abbrev again : Outcome None World
    again = mount_m t.plan_three g t.chosen k later

    abbrev turn : M.State K' → M.State K'
    turn = turned g t.plan_three t.place_three

    turned_runs : Runs g t.plan_three w (only 0 (world later c.left.state)) (turn s)
    turned_runs = record { out = refl; losers = R.losers; shows = ap turn R.shows; chosen = R.chosen; dirs = R.dirs }

    again_from : (Quiet : Type 0) → M.Accepts K' slots dir_rows k (M.empty K' s.device) → (Quiet → Calm K' s [])
        → Again Quiet c.left.state again
    again_from Quiet A calm =
        let e = left turned_runs in
        let h = left_has turned_runs Q.fit.has in
        let start = world later (empty_state t.chosen) in
        let B = next_accepts g t.plan_three t.place_three slots H k s Q C D dir_rows A in
        let S =
        mount_runs g t.plan_three t.chosen k later h.0 u slots (omega arith) h.1
        (subst (λ (x : Planned). M.Accepts K' slots dir_rows k (M.empty K' x)) (sym e) B) in
        let T : Runs g t.plan_three start again (M.mount K' k (turn s).device) =
        subst (λ (x : Planned). Runs g t.plan_three start again (M.mount K' k x)) e S in
        record {
          accepted = T.out;
          files = files_of_lem g t.plan_three t.plan_three turned_runs T (next_files g t.plan_three t.place_three slots H k s Q C D);
          dirs = dirs_of_lem g t.plan_three t.plan_three turned_runs T (next_dirs g t.plan_three t.place_three slots H k s Q C D);
          free =
              λ q. free_of g t.plan_three t.plan_three turned_runs T
              (next_free g t.plan_three t.place_three slots H k s Q C D dir_rows A (calm q));
        }

  -- what the model knows of the two pools
  whole_pool : Pool K' slots (K'.head device_one) (t.n + t.m) model_whole
  whole_pool = mount_pool K' slots (t.n + t.m) device_one has room

  whole_card : Card K' (K'.head device_one) model_whole
  whole_card = mount_card K' slots dir_rows (t.n + t.m) device_one has accepts

  whole_calm : QuietWhole t → Calm K' model_whole []
  whole_calm q = mount_calm K' slots dir_rows (t.n + t.m) device_one has accepts (quiet_whole q)

  two_pool : Pool K' slots (K'.head device_two) (t.n + t.m) model_both
  two_pool = both_pool K' slots t.n t.m device_two has room

  both_card : Card K' (K'.head device_two) model_both
  both_card =
      adopt_card K' slots dir_rows (K'.head device_two) t.m t.n model_part part_pool kept.both_accepted
      (mount_card K' slots dir_rows t.n device_two has kept.part_accepted)

  both_calm : QuietBoth t → Calm K' model_both []
  both_calm q =
      adopt_calm K' slots dir_rows (K'.head device_two) t.m t.n model_part part_pool kept.both_accepted (quiet_both q)
      (mount_calm K' slots dir_rows t.n device_two has kept.part_accepted (quiet_part q))

  both_registered : B.Registered K' (K'.head device_two) (t.n + t.m) model_both.dirs
  unfolding header_at
  both_registered = kept.registered_both

  again_whole_from : M.Accepts K' slots dir_rows (t.n + t.m) (M.empty K' model_whole.device)
      → Untouched t.plan_three 0 (t.n + t.m) (later_dev t (whole t))
      → Again (QuietWhole t) (whole t).left.state (next_whole t (whole t))
  again_whole_from A u =
      again_from whole_runs (K'.head device_one) whole_pool whole_card kept.registered_whole u (QuietWhole t) A whole_calm

  again_both_from : M.Accepts K' slots dir_rows (t.n + t.m) (M.empty K' model_both.device)
      → Untouched t.plan_three 0 (t.n + t.m) (later_dev t (both t)) → Again (QuietBoth t) (both t).left.state (next_whole t (both t))
  again_both_from A u = again_from both_runs (K'.head device_two) two_pool both_card both_registered u (QuietBoth t) A both_calm

  below : Below62 t → P.Below62 K' (K'.head device_one) (t.n + t.m)
  unfolding Below62 P.Below62
  below b i l = omega (arith, wants_is g (headers t i), b i l)

  small : slots ≤ 64
  small = omega (arith, G.few)

  pub again_whole : MountAgainSame t (whole t) (QuietWhole t)
  unfolding MountAgainSame
  again_whole (inl b) u = again_whole_from (returns.0.accepted small (below b)) u
  again_whole (inr q) u = again_whole_from (kept.again_whole (quiet_whole q)).accepted u

  pub again_both : MountAgainSame t (both t) (QuietBoth t)
  unfolding MountAgainSame
  again_both (inl b) u = again_both_from (returns.1.accepted small (below b)) u
  again_both (inr q) u = again_both_from (kept.again_both (quiet_part q) (quiet_both q)).accepted u

  -- where none failed, no two slots of what they leave claim one path
  pub whole_apart : QuietWhole t → Apart K' (K'.head (planned t.plan_one (whole t).left.dev)) (t.n + t.m)
  whole_apart q =
      subst (λ (x : Planned). Apart K' (K'.head x) (t.n + t.m)) (sym (left whole_runs))
      (calm_apart K' slots (K'.head device_one) (t.n + t.m) model_whole whole_pool
      (now K' slots (K'.head device_one) (t.n + t.m) model_whole whole_pool whole_card kept.registered_whole) (whole_calm q))

  pub both_apart : QuietBoth t → Apart K' (K'.head (planned t.plan_two (both t).left.dev)) (t.n + t.m)
  both_apart q =
      subst (λ (x : Planned). Apart K' (K'.head x) (t.n + t.m)) (sym (left both_runs))
      (calm_apart K' slots (K'.head device_two) (t.n + t.m) model_both two_pool
      (now K' slots (K'.head device_two) (t.n + t.m) model_both two_pool both_card both_registered) (both_calm q))

  -- and where no two slots claim one path, neither part releases any
  alone_quiet : Apart K' (K'.head device_two) (t.n + t.m) → QuietBoth t
  unfolding NoneFails empty_state
  alone_quiet apart =
      let plan = t.plan_two in
      let w = (first_part t).left in
      let d = (empty_two t).dev in
      let first : (x : ℕ) → In x (surveyed plan g t.n (empty_two t)).losers → ⊥ =
      λ x m. no_loser K' slots (K'.head device_two) 0 t.n (M.empty K' device_two) (empty_pool K' slots device_two has)
      (omega (arith, room)) (λ i j c e a b. apart i j c e (omega arith) (omega arith)) x
      (subst (λ (y : M.State K'). In x y.losers)
      (sym (survey_is g plan t.n (empty_two t) G.shape (empty_dirs t.chosen) (from_first plan t.chosen t.n d G.reads_part)
      (omega (arith, room)) [])) m) in
      let then : (x : ℕ) → In x (surveyed plan g t.m w).losers → ⊥ =
      λ x m. no_loser K' slots (K'.head device_two) t.n t.m model_part part_pool room apart x
      (subst (λ (y : M.State K'). In x (M.survey K' t.m y).losers) part_runs.shows
      (subst (λ (y : M.State K'). In x y.losers)
      (sym (survey_is g plan t.m w part_has.0 part_runs.dirs reads_both (omega (arith, part_size, part_has.1, room))
      part_runs.losers)) m)) in (
        none_released plan g (surveyed plan g t.n (empty_two t)).losers (standing plan g t.n (empty_two t)) first,
        none_released plan g (surveyed plan g t.m w).losers (standing plan g t.m w) then,
      )

  -- the devices that they leave have the right shape
  pub whole_shape : Shape g (whole t).left.dev.bytes (whole t).left.dev.phys
  whole_shape = (left_has whole_runs whole_pool.fit.has).0

  pub both_shape : Shape g (both t).left.dev.bytes (both t).left.dev.phys
  both_shape = (left_has both_runs two_pool.fit.has).0

-- ---- mounting again in two parts

-- the first place of a plan
abbrev first_place : Place
first_place = record { at = 0; last = 0 }

-- a trial whose next mount is under no plan
abbrev unplanned : Trial → Trial
unplanned t = record {
  geometry = t.geometry;
  bytes = t.bytes;
  phys = t.phys;
  chosen = t.chosen;
  n = t.n;
  m = t.m;
  plan_one = t.plan_one;
  place_one = t.place_one;
  plan_two = t.plan_two;
  place_two = t.place_two;
  plan_three = [];
  place_three = first_place;
}

-- its premises are the same
given_unplanned : (t : Trial) → Given t → Given (unplanned t)
given_unplanned t G = record {
  shape = G.shape;
  few = G.few;
  reads_whole = G.reads_whole;
  reads_part = G.reads_part;
  reads_both = G.reads_both;
  accepted = G.accepted;
}

no_plan : (p : Place) → Faultless [] p
unfolding Faultless
no_plan p j = (λ e. omega (arith, e), λ e. omega (arith, e))

module _ (t : Trial) (few : t.chosen.rows ≤ 64) (c : Outcome None World) (Quiet : Type 0)
    (s : Shape t.geometry c.left.dev.bytes c.left.dev.phys) (A : Again Quiet c.left.state (next_whole (unplanned t) c))
    (i j : ℕ) (e : i + j ≡ t.n + t.m) (u : Untouched t.plan_three 0 i (later_dev t c))
    (v : Untouched t.plan_three i j (next_part t c i).left.dev)
    (apart : Quiet → Apart (real_kit t.geometry) (λ x. said (header_at t.geometry c.left.dev x)) (t.n + t.m)) where
  -- what c left, in one part under no plan, and in two under the third
  abbrev next : Trial
  next = record {
    geometry = t.geometry;
    bytes = c.left.dev.bytes;
    phys = c.left.dev.phys;
    chosen = t.chosen;
    n = i;
    m = j;
    plan_one = [];
    place_one = first_place;
    plan_two = t.plan_three;
    place_two = t.place_three;
    plan_three = [];
    place_three = first_place;
  }

  again_next : Again Quiet c.left.state (whole next)
  again_next = subst (λ (k : ℕ). Again Quiet c.left.state (mount_m [] t.geometry t.chosen k (empty_one next).dev)) (sym e) A

  given_next : Given next
  given_next = record {
    shape = s;
    few = few;
    reads_whole = faultless_untouched [] 0 (i + j) (empty_one next).dev (no_plan first_place);
    reads_part = u;
    reads_both = v;
    accepted = again_next.accepted;
  }

  quiet_next : Quiet → QuietBoth next
  unfolding header_at
  quiet_next q =
      let H : ℕ → M.Head (List ℕ) = λ x. said (header_at t.geometry c.left.dev x) in
      alone_quiet next given_next (subst (Apart (real_kit t.geometry) H) (sym e) (apart q))

  in_parts : ((next_part t c i).out ≡ 0) × Again Quiet c.left.state (next_both t c i j)
  unfolding SameDirs SameFree FreeSlotsSame
  in_parts =
      let S = split next given_next in
      let Q = faultless_none_fails [] t.geometry s.least (i + j) (empty_one next) (no_plan first_place) in (
        S.part_accepted,
        record {
          accepted = S.both_accepted;
          files = record {
            found = λ p. again_next.files.found p ∙ sym (S.files.found p);
            held = λ x p g l. (
              λ h. (S.files.held x p g l).1 ((again_next.files.held x p g l).0 h),
              λ h. (again_next.files.held x p g l).1 ((S.files.held x p g l).0 h),
            );
          };
          dirs = subst (λ (ds : List (List ℕ)). (d : List ℕ) → In d c.left.state.dirs ↔ In d ds) (sym S.dirs) again_next.dirs;
          free = λ q x. (
            λ h. (free_same next given_next Q (quiet_next q) x).1 ((again_next.free q x).0 h),
            λ h. (again_next.free q x).1 ((free_same next given_next Q (quiet_next q) x).0 h),
          );
        },
      )

-- THE THEOREMS

pub the_rule : (t : Trial) → Given t → TheRule t
the_rule = rules

pub split_is_one_mount : (t : Trial) → Given t → SplitIsOneMount t
split_is_one_mount = split

pub free_slots_same : (t : Trial) → Given t → FreeSlotsSame t
free_slots_same = free_same

pub mount_again_same : (t : Trial) → Given t → MountAgainSame t (whole t) (QuietWhole t) × MountAgainSame t (both t) (QuietBoth t)
mount_again_same t G = (again_whole t G, again_both t G)

pub again_in_parts : (t : Trial) → Given t → AgainInParts t (whole t) (QuietWhole t) × AgainInParts t (both t) (QuietBoth t)
unfolding AgainInParts MountAgainSame Below62
again_in_parts t G =
    let F = given_unplanned t G in
    let k = t.n + t.m in (
      λ i j e b u v.
          in_parts t G.few (whole t) (QuietWhole t) (whole_shape t G)
          (again_whole (unplanned t) F b (faultless_untouched [] 0 k (later_dev (unplanned t) (whole t)) (no_plan first_place)))
          i j e u v (whole_apart t G),
      λ i j e b u v.
          in_parts t G.few (both t) (QuietBoth t) (both_shape t G)
          (again_both (unplanned t) F b (faultless_untouched [] 0 k (later_dev (unplanned t) (both t)) (no_plan first_place)))
          i j e u v (both_apart t G),
    )
