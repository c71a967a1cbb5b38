-- What mount and adopt promise. The demand: "Each path claimed by a valid in-use header goes to its highest generation, lowest slot on a
-- tie; mounting n slots and adopting the rest equals one mount, whatever writes, flushes or truncates fail; mounting again gives the
-- same." The statements stand here; proofs/Theorem.antt proves each, for every kit.
use Rattle.std.specs.Prelude.{ℕ, ◌+◌, ◌≤◌, ◌<◌, ◌^◌, ◌≡◌, ◌↔◌, true, List, [], ◌∷◌}
use Rattle.lists.specs.Distinct.{In}
use Rattle.promises_model.specs.Model.{Claim, Head, bound, Kit}
use Rattle.promises_model.specs.Model as M
use Rattle.promises_model.specs.Best.{Rule, Registered}

module _ (K : Kit) where
  open K use {Path, Dir, Device, Has, head, fine}

  -- The same files: each path is found in the same slot, and each slot is bound to the same path, generation and length.
  -- (Not the same rows: the generations of unbound rows differ, and nothing is promised of them.)
  pub record SameFiles (s t : M.State K) : Type 0 where
    pub found : (p : Path) → M.find K p s.rows ≡ M.find K p t.rows
    pub held : (i : ℕ) (c : Claim Path) → (M.row_at K s.rows i ≡ bound c) ↔ (M.row_at K t.rows i ≡ bound c)

  -- The same directories, in whatever order.
  unfoldable pub SameDirs : M.State K → M.State K → Type 0
  SameDirs s t = (d : Dir) → In d s.dirs ↔ In d t.dirs

  -- The same free slots, in whatever order.
  unfoldable pub SameFree : M.State K → M.State K → Type 0
  SameFree s t = (i : ℕ) → In i s.queue ↔ In i t.queue

  -- All writes, flushes and truncates succeed: of the releases of the losers ls, one after the other; of an adoption of n slots.
  unfoldable pub AllFine : List ℕ → M.State K → Type 0
  AllFine [] s = Unit {0}
  AllFine (i ∷ is) s = (fine s.device i s.counter ≡ true) × AllFine is (M.release K s i)

  unfoldable pub NoneFails : ℕ → M.State K → Type 0
  NoneFails n s = AllFine (M.survey K n s).losers (M.survey K n s)

  -- The valid headers among the first n have generations below 2^62.
  unfoldable pub Below62 : (ℕ → Head Path) → ℕ → Type 0
  Below62 H n = (i : ℕ) → i < n → M.wants K (H i) ≤ 2 ^ 62

  -- "Mounting again gives the same": the device of the pool s, mounted once more over the same rows, is accepted and gives s's files,
  -- directories and free slots.
  pub record Again (slots dir_rows k : ℕ) (s : M.State K) : Type 0 where
    pub accepted : M.Accepts K slots dir_rows k (M.empty K s.device)
    pub files : SameFiles s (M.mount K k s.device)
    pub dirs : SameDirs s (M.mount K k s.device)
    pub free : SameFree s (M.mount K k s.device)

  module _ (n m : ℕ) (one two : Device) where
    -- all n + m slots of the first device, in one mount
    abbrev pub whole : M.State K
    whole = M.mount K (n + m) one

    -- the first n slots of the second device
    abbrev pub first_part : M.State K
    first_part = M.mount K n two

    -- and the other m adopted
    abbrev pub both : M.State K
    both = M.adopt K m first_part

    -- What is promised of the two, over `slots` slots and `dir_rows` directory rows.
    pub record Kept (slots dir_rows : ℕ) : Type 0 where
      -- "Each path claimed by a valid in-use header goes to its highest generation, lowest slot on a tie", after either.
      pub rule_whole : Rule K (head one) (n + m) whole.rows
      pub rule_both : Rule K (head one) (n + m) both.rows
      -- 01: "Ancestors of every claim are registered", after either.
      pub registered_whole : Registered K (head one) (n + m) whole.dirs
      pub registered_both : Registered K (head one) (n + m) both.dirs
      -- "Mounting n slots and adopting the rest equals one mount, whatever writes, flushes or truncates fail": both parts are accepted,
      -- and give the same files and the same directories, even in order. No premise speaks of what fails.
      pub part_accepted : M.Accepts K slots dir_rows n (M.empty K two)
      pub both_accepted : M.Accepts K slots dir_rows m first_part
      pub files : SameFiles both whole
      pub dirs : both.dirs ≡ whole.dirs
      -- Where none fails the free slots are the same too. (A slot whose release failed is neither bound nor free.)
      pub free : NoneFails (n + m) (M.empty K one) → NoneFails n (M.empty K two) → NoneFails m first_part → SameFree both whole
      -- "Mounting again gives the same", after either, where none failed.
      pub again_whole : NoneFails (n + m) (M.empty K one) → Again slots dir_rows (n + m) whole
      pub again_both : NoneFails n (M.empty K two) → NoneFails m first_part → Again slots dir_rows (n + m) both

  -- THE DEMAND, for any two plans. Its premises, and why each is there:
  -- - header reads neither fail nor are cut short (in the kit: `seen` moves the plan's place and leaves every header): a slot whose header
  --   isn't seen is taken as free by the one and as a claim by the other;
  -- - both devices have the right shape, and equal headers in the slots that are mounted. All else may differ, so the plans may make other
  --   calls fail;
  -- - valid generations are below 2^62;
  -- - one mount of all slots over the same rows is accepted: else there is nothing to compare with.
  unfoldable pub Demand : Type 0
  Demand = (slots dir_rows n m : ℕ) (one two : Device) → Has one slots → Has two slots
      → ((i : ℕ) → i < n + m → head one i ≡ head two i)
      → Below62 (head one) (n + m)
      → M.Accepts K slots dir_rows (n + m) (M.empty K one)
      → Kept n m one two slots dir_rows

  -- The same for all generations: the premise on 2^62 isn't needed, since the parts ask for no higher counter than the whole.
  unfoldable pub DemandOfAll : Type 0
  DemandOfAll = (slots dir_rows n m : ℕ) (one two : Device) → Has one slots → Has two slots
      → ((i : ℕ) → i < n + m → head one i ≡ head two i)
      → M.Accepts K slots dir_rows (n + m) (M.empty K one)
      → Kept n m one two slots dir_rows

  -- More than was asked: files and directories are the same at the next mount even where releases failed, since a failed release leaves
  -- the old claim, which loses again, or a free header. Its acceptance does need generations below 2^62 (specs/Examples.antt,
  -- `again_refused`).
  pub record Returns (slots dir_rows k : ℕ) (w : Device) (s : M.State K) : Type 0 where
    pub files : SameFiles s (M.mount K k s.device)
    pub dirs : SameDirs s (M.mount K k s.device)
    pub accepted : slots ≤ 64 → Below62 (head w) k → M.Accepts K slots dir_rows k (M.empty K s.device)

  unfoldable pub AgainWhateverFails : Type 0
  AgainWhateverFails = (slots dir_rows n m : ℕ) (one two : Device) → Has one slots → Has two slots
      → ((i : ℕ) → i < n + m → head one i ≡ head two i)
      → M.Accepts K slots dir_rows (n + m) (M.empty K one)
      → Returns slots dir_rows (n + m) one (whole n m one two) × Returns slots dir_rows (n + m) one (both n m one two)
