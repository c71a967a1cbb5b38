-- Demand 3, about the inner calls `mount_m` and `adopt_m`, which the contracts of mount and adopt cite. Crate promises says the same of the
-- public call, with these as its inside. proofs/Theorem.antt proves each statement, under its name in small letters.
use Rattle.std.specs.Prelude.{ℕ, ◌+◌, ◌≤◌, ◌<◌, ◌^◌, ◌≡◌, ◌⊎◌, List}
use Rattle.device.specs.declared.Place.{Place}
use Rattle.device.specs.declared.Geometry.{Geometry}
use Rattle.device.specs.Device.{Dev, dev, Shape}
use Rattle.pool_state.specs.declared.Chosen.{Chosen}
use Rattle.pool_state.specs.State.{State}
use Rattle.pool_steps.specs.World.{World, world}
use Rattle.pool_steps.specs.Outcome.{Outcome, None}
use Rattle.mount_survey.specs.Heads.{Head}
use Rattle.mount_survey.specs.Staged.{wants}
use Rattle.mount.specs.Mount.{adopt_m, empty_state, mount_m}
use Rattle.promises_mount.specs.Words.{header_at, Untouched, Rule, Registered, SameFiles, SameDirs, SameFree, NoneFails}

-- ---- the two ways

-- The pool s, mounted again as c: accepted, with the same files and directories, and the same free slots where none failed.
pub record Again (Quiet : Type 0) (s : State) (c : Outcome None World) : Type 0 where
  pub accepted : c.out ≡ 0
  pub files : SameFiles s c.left.state
  pub dirs : SameDirs s c.left.state
  pub free : Quiet → SameFree s c.left.state

-- A device, n + m of its slots, as many slot rows and directory rows as are lent for them, two plans with a place in each, and a third
-- for the next mount.
pub record Trial : Type 0 where
  pub geometry : Geometry
  pub bytes : List ℕ
  pub phys : List ℕ
  pub chosen : Chosen
  pub n : ℕ
  pub m : ℕ
  pub plan_one : List ℕ
  pub place_one : Place
  pub plan_two : List ℕ
  pub place_two : Place
  pub plan_three : List ℕ
  pub place_three : Place

module _ (t : Trial) where
  -- The headers of the slots, under either plan.
  abbrev pub headers : ℕ → Head
  headers = header_at t.geometry (dev t.bytes t.phys t.place_one)

  -- The device with no pool yet, under the first plan and under the second.
  abbrev pub empty_one : World
  empty_one = world (dev t.bytes t.phys t.place_one) (empty_state t.chosen)

  abbrev pub empty_two : World
  empty_two = world (dev t.bytes t.phys t.place_two) (empty_state t.chosen)

  -- All n + m slots in one mount, under the first plan.
  abbrev pub whole : Outcome None World
  whole = mount_m t.plan_one t.geometry t.chosen (t.n + t.m) empty_one.dev

  -- The first n slots, under the second plan,
  abbrev pub first_part : Outcome None World
  first_part = mount_m t.plan_two t.geometry t.chosen t.n empty_two.dev

  -- and the other m adopted.
  abbrev pub both : Outcome None World
  both = adopt_m t.plan_two t.geometry t.m first_part.left

  -- No write, flush or truncate fails in the one mount; in the two parts.
  abbrev pub QuietWhole : Type 0
  QuietWhole = NoneFails t.plan_one t.geometry (t.n + t.m) empty_one

  abbrev pub QuietBoth : Type 0
  QuietBoth = NoneFails t.plan_two t.geometry t.n empty_two × NoneFails t.plan_two t.geometry t.m first_part.left

  -- THE PREMISES, and why each is there.
  pub record Given : Type 0 where
    -- 01's number 2: the device has the right shape, and there are at most 64 slot rows
    pub shape : Shape t.geometry t.bytes t.phys
    pub few : t.chosen.rows ≤ 64
    -- no header read failed or was cut short by its plan: a slot whose header isn't seen is taken as free by the one and as a claim by
    -- the other
    pub reads_whole : Untouched t.plan_one 0 (t.n + t.m) empty_one.dev
    pub reads_part : Untouched t.plan_two 0 t.n empty_two.dev
    pub reads_both : Untouched t.plan_two t.n t.m first_part.left.dev
    -- one mount of everything over the same rows is accepted: else there is nothing to compare with
    pub accepted : whole.out ≡ 0

  -- Valid generations are below 2^62: what a header wants of the counter is one more than its generation, and 0 where it isn't valid.
  unfoldable pub Below62 : Type 0
  Below62 = (i : ℕ) → i < t.n + t.m → wants (headers i) ≤ 2 ^ 62

  -- "Each path claimed by a valid in-use header goes to its highest generation, lowest slot on a tie", after either; and so are its
  -- ancestors registered.
  pub record TheRule : Type 0 where
    pub rule_whole : Rule headers (t.n + t.m) whole.left.state.rows
    pub rule_both : Rule headers (t.n + t.m) both.left.state.rows
    pub dirs_whole : Registered headers (t.n + t.m) whole.left.state.dirs
    pub dirs_both : Registered headers (t.n + t.m) both.left.state.dirs

  -- "Mounting n slots and adopting the rest equals one mount, whatever writes, flushes or truncates fail": both parts are accepted, and
  -- give the same files and the same directories, even in order. No premise speaks of what fails.
  pub record SplitIsOneMount : Type 0 where
    pub part_accepted : first_part.out ≡ 0
    pub both_accepted : both.out ≡ 0
    pub files : SameFiles both.left.state whole.left.state
    pub dirs : both.left.state.dirs ≡ whole.left.state.dirs

  -- Where none fails the free slots are the same too. (A slot whose release failed is neither bound nor free.)
  unfoldable pub FreeSlotsSame : Type 0
  FreeSlotsSame = QuietWhole → QuietBoth → SameFree both.left.state whole.left.state

  -- ---- "mounting again gives the same"

  -- What a call left on the device, under the third plan; mounted again over the same rows; the first i slots of it, and j more adopted.
  abbrev pub later_dev : Outcome None World → Dev
  later_dev c = dev c.left.dev.bytes c.left.dev.phys t.place_three

  abbrev pub next_whole : Outcome None World → Outcome None World
  next_whole c = mount_m t.plan_three t.geometry t.chosen (t.n + t.m) (later_dev c)

  abbrev pub next_part : Outcome None World → ℕ → Outcome None World
  next_part c i = mount_m t.plan_three t.geometry t.chosen i (later_dev c)

  abbrev pub next_both : Outcome None World → ℕ → ℕ → Outcome None World
  next_both c i j = adopt_m t.plan_three t.geometry j (next_part c i).left

  -- What c left is mounted again in one part, where the header reads of that mount are not touched, and where generations are below 2^62
  -- or c's own releases did not fail. (A loser whose release failed loses again, and asks for one more generation than may be left: three
  -- claims of one path, the highest of generation 2^63 - 3, and the first release fails.)
  unfoldable pub MountAgainSame : Outcome None World → Type 0 → Type 0
  MountAgainSame c Quiet =
      Below62 ⊎ Quiet → Untouched t.plan_three 0 (t.n + t.m) (later_dev c) → Again Quiet c.left.state (next_whole c)

  -- The same in two parts, of whatever sizes.
  unfoldable pub AgainInParts : Outcome None World → Type 0 → Type 0
  AgainInParts c Quiet =
      (i j : ℕ) → i + j ≡ t.n + t.m → Below62 ⊎ Quiet
      → Untouched t.plan_three 0 i (later_dev c) → Untouched t.plan_three i j (next_part c i).left.dev
      → ((next_part c i).out ≡ 0) × Again Quiet c.left.state (next_both c i j)
