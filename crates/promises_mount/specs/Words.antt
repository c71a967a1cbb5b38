-- The words of demand 3: "Each path claimed by a valid in-use header goes to its highest generation, lowest slot on a tie; mounting n slots
-- and adopting the rest equals one mount, whatever writes, flushes or truncates fail; mounting again gives the same."
-- Paths are compared by components; headers are the blocks on the device.
use Rattle.std.specs.Prelude.{ℕ, ◌+◌, ◌<◌, ◌≡◌, ◌≢◌, ◌⊎◌, ◌↔◌, true, false, List, [], ◌∷◌, length, get_or}
use Rattle.lists.specs.Distinct.{In, Distinct}
use Rattle.path.specs.Path.{same_path, ancestors}
use Rattle.device.specs.declared.Place.{Place}
use Rattle.device.specs.declared.Geometry.{Geometry}
use Rattle.device.specs.Device.{Dev, Shape, turn, phys_of, given}
use Rattle.device.specs.Calls.{block_of}
use Rattle.slot_rows.specs.Rows.{Row, at, is_bound, path_of, gen_of, len_of, find}
use Rattle.pool_state.specs.State.{State}
use Rattle.pool_steps.specs.World.{World, world}
use Rattle.pool_steps.specs.Steps.{fine_m, free_m, release_m}
use Rattle.mount_survey.specs.Heads.{Head, claim, head_of, Reads, reads_m}
use Rattle.mount_survey.specs.Survey.{Survey, scan}
use Rattle.mount.specs.Mount.{begin, installed, moved}

-- ---- the headers on the device

-- What slot i's header says, read in full.
unfoldable pub header_at : Geometry → Dev → ℕ → Head
header_at g d i = head_of (block_of g i d)

-- The header reads of the k slots from i on are neither failed nor cut short. Plan byte 1 fails a read; byte 2 has it give half, which cuts
-- nothing short exactly where the slot is empty.
unfoldable pub Untouched : List ℕ → ℕ → ℕ → Dev → Type 0
Untouched plan i k d =
    (j : ℕ) → j < k → (get_or plan (d.place.at + j) 0 ≢ 1) × (get_or plan (d.place.at + j) 0 ≡ 2 → phys_of (i + j) d ≡ 0)

-- That says exactly "neither failed nor cut short": each of these reads is done, and gives the slot's whole block.
unfoldable pub UntouchedExactly : Type 0
UntouchedExactly = (plan : List ℕ) (g : Geometry) (d : Dev) (i : ℕ) → Shape g d.bytes d.phys → i < length d.phys
    → Untouched plan i 1 d ↔ ((turn plan d.place ≢ 1) × (given plan g i 0 512 d ≡ block_of g i d))

-- From this place on the plan has no byte 1 or 2.
unfoldable pub Faultless : List ℕ → Place → Type 0
Faultless plan p = (j : ℕ) → (get_or plan (p.at + j) 0 ≢ 1) × (get_or plan (p.at + j) 0 ≢ 2)

-- ---- "goes to its highest generation, lowest slot on a tie"

-- Slot i, which claims path p under generation e with length l, is the best claim of its path among the first n headers H: each other
-- claim of an equal path has a lower generation, or an equal one in a higher slot.
pub record Best (H : ℕ → Head) (n i : ℕ) (p : List ℕ) (e l : ℕ) : Type 0 where
  pub among : i < n
  pub claims : H i ≡ claim p e l
  pub over : (j : ℕ) (q : List ℕ) (f m : ℕ) → j < n → j ≢ i → H j ≡ claim q f m → same_path p q ≡ true → (f < e) ⊎ ((f ≡ e) × (i < j))

-- Slot i is bound to path p under generation e with length l.
pub record Holds (rows : List Row) (i : ℕ) (p : List ℕ) (e l : ℕ) : Type 0 where
  pub bound : is_bound (at rows i) ≡ true
  pub path : path_of (at rows i) ≡ p
  pub gen : gen_of (at rows i) ≡ e
  pub len : len_of (at rows i) ≡ l

-- The rows are the rule's answer on the first n headers H.
pub record Rule (H : ℕ → Head) (n : ℕ) (rows : List Row) : Type 0 where
  -- one row for each slot
  pub size : length rows ≡ n
  -- a slot is bound exactly if it is the best claim of its path, and then to that header's path, generation and length
  pub holder : (i : ℕ) (p : List ℕ) (e l : ℕ) → Holds rows i p e l ↔ Best H n i p e l
  -- a path that is claimed has a best claim, and is found in that slot
  pub claimed : (p : List ℕ) (j : ℕ) (q : List ℕ) (f m : ℕ) → j < n → H j ≡ claim q f m → same_path p q ≡ true
      → (r : List ℕ) × (e : ℕ) × (l : ℕ) × (same_path p r ≡ true) × Best H n (find p rows) r e l
  -- a path that no header claims isn't found
  pub unclaimed : (p : List ℕ) → ((j : ℕ) (q : List ℕ) (f m : ℕ) → j < n → H j ≡ claim q f m → same_path p q ≡ false) → find p rows ≡ n

-- 01, "Ancestors of every claim are registered": the directories are the ancestors of the claims among the first n headers H, each once.
pub record Registered (H : ℕ → Head) (n : ℕ) (dirs : List (List ℕ)) : Type 0 where
  pub each : (d : List ℕ) (j : ℕ) (q : List ℕ) (f m : ℕ) → j < n → H j ≡ claim q f m → In d (ancestors q) → In d dirs
  pub only : (d : List ℕ) → In d dirs → (j : ℕ) × (q : List ℕ) × (f : ℕ) × (m : ℕ) × (j < n) × (H j ≡ claim q f m) × In d (ancestors q)
  pub once : Distinct dirs

-- ---- "equals", "the same"

-- The same files: each path is found in the same slot, and each slot is bound to the same path, generation and length.
-- (Not the same rows: the generations of unbound rows differ, and nothing is promised of them.)
pub record SameFiles (s t : State) : Type 0 where
  pub found : (p : List ℕ) → find p s.rows ≡ find p t.rows
  pub held : (i : ℕ) (p : List ℕ) (e l : ℕ) → Holds s.rows i p e l ↔ Holds t.rows i p e l

-- The same directories, and the same free slots, in whatever order.
unfoldable pub SameDirs : State → State → Type 0
SameDirs s t = (d : List ℕ) → In d s.dirs ↔ In d t.dirs

unfoldable pub SameFree : State → State → Type 0
SameFree s t = (i : ℕ) → In i s.queue ↔ In i t.queue

-- ---- "whatever writes, flushes or truncates fail"

-- Every release of these losers, one after the other, comes to 0: no write, flush or truncate of theirs fails.
unfoldable pub AllFine : List ℕ → Geometry → List ℕ → World → Type 0
AllFine plan g [] w = Unit {0}
AllFine plan g (i ∷ is) w = (fine_m (free_m plan g i w.state.counter w.dev) ≡ true) × AllFine plan g is (release_m plan g i w)

-- What an adoption of k slots reads and finds, and the pool as it stands then, no loser released yet.
unfoldable pub reading : List ℕ → Geometry → ℕ → World → Reads
reading plan g k w = reads_m plan g (length w.state.rows) k w.dev

unfoldable pub surveyed : List ℕ → Geometry → ℕ → World → Survey
surveyed plan g k w = scan (reading plan g k w).heads (begin w.state)

unfoldable pub standing : List ℕ → Geometry → ℕ → World → World
standing plan g k w = world (moved (reading plan g k w).place w).dev (installed w.state (surveyed plan g k w))

-- None of the adoption's writes, flushes and truncates fails.
unfoldable pub NoneFails : List ℕ → Geometry → ℕ → World → Type 0
NoneFails plan g k w = AllFine plan g (surveyed plan g k w).losers (standing plan g k w)
