-- Demand 3 as the customer says it, of the public call `pool::call`: "Each path claimed by a valid in-use header goes to its highest
-- generation, lowest slot on a tie; mounting n slots and adopting the rest equals one mount, whatever writes, flushes or truncates fail;
-- mounting again gives the same." His premises, and no others: no header read fails or is cut short, and one mount of all is accepted.
-- Mounting again also asks that generations are below 2^62, or that no release failed before it.
--
-- What it says of the section with the basement that nobody built: two slots claim one tile's name, the raw tile and, under a higher
-- generation, the cleaned one. The cleaned tile is what every mount binds to the name, in one part or in two, whatever fails while the
-- raw one is released, and at the next mount too. (Incident has the two slots alone, end to end.)
use Rattle.std.specs.Prelude.{ℕ, ◌+◌, ◌≤◌, ◌≡◌, ◌⊎◌, List}
use Rattle.device.specs.Device.{dev}
use Rattle.pool_steps.specs.World.{world, view_w, Ready}
use Rattle.mount.specs.Mount.{empty_state}
use Rattle.calls_gate.specs.declared.Call.TheVariants.{Mount, Adopt}
use Rattle.calls_gate.specs.Table.{chosen_of}
use Rattle.pool.specs.Face.{Asked, Left, lent_of, Entered}
use Rattle.promises_mount.specs.Words.{header_at, Untouched, Faultless, Rule, Registered, SameFiles, SameDirs, SameFree, NoneFails}
use Rattle.promises_mount.specs.Mounts.{Trial, headers, Below62}
use Rattle.promises.specs.Face.{number, dev_of, left_of, held, device_of, Lending, asking, ask_next}

-- ---- the rule for one mount

-- A mount of k slots that is accepted, whose header reads are neither failed nor cut short: each path claimed by a valid in-use header is
-- bound to its best claim, ancestors of the claims are registered, and nothing else is held; it is a pool on its device.
pub record Mounted (x : Asked) (k : ℕ) (y : Left) : Type 0 where
  pub rule : Rule (header_at x.geometry (device_of x)) k (held y).rows
  pub dirs : Registered (header_at x.geometry (device_of x)) k (held y).dirs
  pub ready : Ready x.geometry (left_of y)

unfoldable pub MountRule : Type 0
MountRule = (x : Asked) (k : ℕ) (y : Left) → Entered x y → x.call ≡ Mount k → Untouched x.plan 0 k (device_of x) → number y ≡ 0
    → Mounted x k y

-- ---- "whatever writes, flushes or truncates fail"

-- None of the writes, flushes and truncates of a mount, of an adoption, of k slots fails.
abbrev pub QuietMount : Asked → ℕ → Type 0
QuietMount x k = NoneFails x.plan x.geometry k (world (device_of x) (empty_state (chosen_of (lent_of x).bufs)))

abbrev pub QuietAdopt : Asked → ℕ → Type 0
QuietAdopt x k = NoneFails x.plan x.geometry k (view_w (lent_of x))

-- In plan terms: where the plan has no byte 1 or 2 from the place on, no header read is touched, and none of these fails.
unfoldable pub FaultlessIsQuiet : Type 0
FaultlessIsQuiet = (x : Asked) (i k : ℕ) → 512 ≤ x.geometry.size → Faultless x.plan x.at
    → Untouched x.plan i k (device_of x) × QuietMount x k × QuietAdopt x k

-- ---- the two ways

-- The calls: one mount of all n + m slots, under the first plan, left `one`; a mount of the first n, under the second, left `two`, and the
-- adoption of the other m into that left `three`. As many rows are lent in each way.
pub record Ways (t : Trial) : Type 0 where
  pub lend_one : Lending t.chosen
  pub lend_two : Lending t.chosen
  pub one : Left
  pub two : Left
  pub three : Left

module _ (t : Trial) where
  -- An adoption of k more into what a call left.
  abbrev pub adopting : List ℕ → Lending t.chosen → ℕ → Left → Asked
  adopting plan r k y = ask_next t.geometry plan (Adopt k) r.first r.second r.buf y

  module _ (w : Ways t) where
    abbrev pub ask_one : Asked
    ask_one = asking t.geometry (dev t.bytes t.phys t.place_one) t.plan_one w.lend_one (Mount (t.n + t.m))

    abbrev pub ask_two : Asked
    ask_two = asking t.geometry (dev t.bytes t.phys t.place_two) t.plan_two w.lend_two (Mount t.n)

    abbrev pub ask_three : Asked
    ask_three = adopting t.plan_two w.lend_two t.m w.two

    -- THE PREMISES.
    pub record Premises : Type 0 where
      -- `pool::call` was called so, and left that
      pub made_one : Entered ask_one w.one
      pub made_two : Entered ask_two w.two
      pub made_three : Entered ask_three w.three
      -- no header read failed or was cut short
      pub reads_one : Untouched t.plan_one 0 (t.n + t.m) (device_of ask_one)
      pub reads_two : Untouched t.plan_two 0 t.n (device_of ask_two)
      pub reads_three : Untouched t.plan_two t.n t.m (device_of ask_three)
      -- the one mount is accepted
      pub accepted : number w.one ≡ 0

    -- None of the writes, flushes and truncates of the one mount, of the two parts, fails.
    abbrev pub QuietOne : Type 0
    QuietOne = QuietMount ask_one (t.n + t.m)

    abbrev pub QuietTwo : Type 0
    QuietTwo = QuietMount ask_two t.n × QuietAdopt ask_three t.m

    -- "Mounting n slots and adopting the rest equals one mount": both parts are accepted, each way leaves a pool on its device whose
    -- files and directories are the rule's, and the same, the directories even in order; and the free slots are the same where none
    -- fails.
    pub record SplitIsOne : Type 0 where
      pub two_accepted : number w.two ≡ 0
      pub three_accepted : number w.three ≡ 0
      pub one_ready : Ready t.geometry (left_of w.one)
      pub three_ready : Ready t.geometry (left_of w.three)
      pub one_rule : Rule (headers t) (t.n + t.m) (held w.one).rows
      pub three_rule : Rule (headers t) (t.n + t.m) (held w.three).rows
      pub one_dirs : Registered (headers t) (t.n + t.m) (held w.one).dirs
      pub three_dirs : Registered (headers t) (t.n + t.m) (held w.three).dirs
      pub files : SameFiles (held w.three) (held w.one)
      pub dirs : (held w.three).dirs ≡ (held w.one).dirs
      pub free : QuietOne → QuietTwo → SameFree (held w.three) (held w.one)

  -- ---- "mounting again gives the same"

  -- What y left, mounted again, left `next`: accepted, the same files and directories, and the same free slots where none failed.
  pub record Remounted (Quiet : Type 0) (y next : Left) : Type 0 where
    pub done : number next ≡ 0
    pub files : SameFiles (held y) (held next)
    pub dirs : SameDirs (held y) (held next)
    pub free : Quiet → SameFree (held y) (held next)

  -- The device that y left is mounted again, k slots of it, over other rows of the same numbers, under the third plan.
  abbrev pub ask_again : Lending t.chosen → ℕ → Left → Asked
  ask_again r k y = asking t.geometry (dev y.bytes y.phys t.place_three) t.plan_three r (Mount k)

  -- In one part; and in two of whatever sizes. Generations are below 2^62, or nothing failed before.
  unfoldable pub AgainTheSame : Type 0 → Left → Type 0
  AgainTheSame Quiet y = Below62 t ⊎ Quiet → (r : Lending t.chosen)
      → ((next : Left) → Entered (ask_again r (t.n + t.m) y) next
      → Untouched t.plan_three 0 (t.n + t.m) (device_of (ask_again r (t.n + t.m) y)) → Remounted Quiet y next)
      × ((i j : ℕ) (part next : Left) → i + j ≡ t.n + t.m
      → Entered (ask_again r i y) part → Entered (adopting t.plan_three r j part) next
      → Untouched t.plan_three 0 i (device_of (ask_again r i y)) → Untouched t.plan_three i j (dev_of part)
      → (number part ≡ 0) × Remounted Quiet y next)

-- THE DEMAND, for any two plans, and any third at the next mount.
unfoldable pub Demand3 : Type 0
Demand3 = (t : Trial) (w : Ways t) → Premises t w
    → SplitIsOne t w × AgainTheSame t (QuietOne t w) w.one × AgainTheSame t (QuietTwo t w) w.three
