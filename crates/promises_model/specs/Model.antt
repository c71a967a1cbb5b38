-- The pool's mount, adopt and release as functions on states, in the order and the words of 01, "Mount, adopt" and "Release".
-- They stand over a `Kit`: paths, directories and a device, with the laws by which the real ones are known here.
-- A row has no dirty bit: what is promised speaks of path, slot, length and generation, and each row that a mount makes is clean.
use Rattle.std.specs.Prelude.{ℕ, zero, suc, ◌+◌, ◌≤◌, ◌<◌, ◌^◌, max, ◌≡◌, ◌≢◌, ◌⊎◌, Bool, true, false, cond, ◌||◌, List, [], ◌∷◌, ◌++◌, length, get_or, set, leb}
use Rattle.limits.specs.Limits.{last_counter}

-- What a claim says: a path as it is spelled, a generation and a file length.
pub record Claim (Path : Type 0) : Type 0 where
  pub path : Path
  pub gen : ℕ
  pub len : ℕ

-- A slot's decoded header: none that is valid; a valid one that claims nothing (not in use, or of an empty path), with its generation; or
-- a claim.
pub data Head (Path : Type 0) : Type 0 where
  absent : Head Path
  idle : ℕ → Head Path
  claim : Claim Path → Head Path

-- A slot's row: unbound, with the generation of its release (0 before the first); or bound to what its header claims.
pub data Row (Path : Type 0) : Type 0 where
  unbound : ℕ → Row Path
  bound : Claim Path → Row Path

-- What the model asks of paths, of directories and of the device.
pub record Kit : Type 1 where
  -- paths and their equality, 01, "Path equality"
  pub Path : Type 0
  pub same : Path → Path → Bool
  pub same_refl : (p : Path) → same p p ≡ true
  pub same_sym : (p q : Path) → same p q ≡ true → same q p ≡ true
  pub same_trans : (p q r : Path) → same p q ≡ true → same q r ≡ true → same p r ≡ true
  -- directories, kept normal, so that equal ones are the same
  pub Dir : Type 0
  pub eq_dir : Dir → Dir → Bool
  pub eq_dir_true : (d e : Dir) → eq_dir d e ≡ true → d ≡ e
  pub eq_dir_refl : (d : Dir) → eq_dir d d ≡ true
  -- a path's non-empty ancestors, nearest first; equal paths have the same
  pub ancestors : Path → List Dir
  pub ancestors_same : (p q : Path) → same p q ≡ true → ancestors p ≡ ancestors q
  -- the device with its plan and the plan's place; that it has the right shape (01, "The device") and at least n slots;
  -- what a slot's header decodes to, read in full
  pub Device : Type 0
  pub Has : Device → ℕ → Type 0
  pub head : Device → ℕ → Head Path
  -- the device after m header reads from slot k on, none of them failed or cut short: no header has changed
  pub seen : Device → ℕ → ℕ → Device
  pub has_seen : (w : Device) (n k m : ℕ) → Has w n → Has (seen w k m) n
  pub sees : (w : Device) (k m i : ℕ) → head (seen w k m) i ≡ head w i
  -- the device after a release's calls on slot i under generation g (write the free header, flush, truncate, up to the first that fails),
  -- and whether all succeeded
  pub free : Device → ℕ → ℕ → Device
  pub fine : Device → ℕ → ℕ → Bool
  -- the shape stays, and other slots keep their headers; where all succeeded the slot's own header is free; where one failed it is free,
  -- or as before
  pub has_free : (w : Device) (n i g : ℕ) → Has w n → i < n → Has (free w i g) n
  pub keeps : (w : Device) (n i g j : ℕ) → Has w n → i < n → j < n → j ≢ i → head (free w i g) j ≡ head w j
  pub frees : (w : Device) (n i g : ℕ) → Has w n → i < n → g < last_counter → fine w i g ≡ true → head (free w i g) i ≡ idle g
  pub stays : (w : Device) (n i g : ℕ) → Has w n → i < n → g < last_counter → fine w i g ≡ false → (head (free w i g) i ≡ head w i) ⊎ (head (free w i g) i ≡ idle g)

module _ (K : Kit) where
  open K use {Path, same, Dir, eq_dir, ancestors, Device, head, seen, free, fine}

  -- The pool: a row for each slot held, the free queue, the losers that the last mount or adopt found, the directories, the counter, and
  -- the device.
  pub record State : Type 0 where
    pub rows : List (Row Path)
    pub queue : List ℕ
    pub losers : List ℕ
    pub dirs : List Dir
    pub counter : ℕ
    pub device : Device

  -- The pool of no slots: "Counter starts at 1".
  abbrev pub empty : Device → State
  empty w = record { rows = []; queue = []; losers = []; dirs = []; counter = 1; device = w }

  -- Slot i's row; past the rows, an unbound one.
  abbrev pub row_at : List (Row Path) → ℕ → Row Path
  row_at rs i = get_or rs i (unbound 0)

  -- The row is bound to a path equal to p.
  abbrev pub holds : Path → Row Path → Bool
  holds p (unbound g) = false
  holds p (bound c) = same p c.path

  -- The holder of p: the first slot whose row holds it, or the number of rows where none does.
  unfoldable pub find : Path → List (Row Path) → ℕ
  find p [] = zero
  find p (r ∷ rs) = cond (holds p r) zero (suc (find p rs))

  -- "Ancestors of every claim are registered": each that is no directory yet is added at the end.
  unfoldable pub has : Dir → List Dir → Bool
  has d [] = false
  has d (e ∷ es) = eq_dir d e || has d es

  unfoldable pub register : List Dir → List Dir → List Dir
  register ds [] = ds
  register ds (e ∷ es) = register (cond (has e ds) ds (ds ++ (e ∷ []))) es

  -- "Counter .. exceeds every valid header's generation": what a header wants of the counter.
  abbrev pub wants : Head Path → ℕ
  wants absent = 0
  wants (idle g) = suc g
  wants (claim c) = suc c.gen

  -- The newest slot claims nothing: "Non-claims join the queue by index".
  abbrev pub spare : State → Head Path → State
  spare s h =
      record {
        rows = s.rows ++ (unbound 0 ∷ []);
        queue = s.queue ++ (length s.rows ∷ []);
        losers = s.losers;
        dirs = s.dirs;
        counter = max s.counter (wants h);
        device = s.device;
      }

  -- The newest slot claims c: it gets the row r after the rows rs, the losers ls are noted, and c's ancestors registered.
  abbrev pub enter : State → Claim Path → List (Row Path) → List ℕ → Row Path → State
  enter s c rs ls r =
      record {
        rows = rs ++ (r ∷ []);
        queue = s.queue;
        losers = s.losers ++ ls;
        dirs = register s.dirs (ancestors c.path);
        counter = max s.counter (suc c.gen);
        device = s.device;
      }

  -- The holder's claim d stands against the newcomer's claim c: its generation is equal or higher.
  abbrev pub stands : Claim Path → Claim Path → Bool
  stands d c = leb c.gen d.gen

  -- The path is held in slot j. "An equal or higher holder makes the newcomer a loser; otherwise the holder loses."
  abbrev pub rival : State → Claim Path → ℕ → Bool → State
  rival s c j true = enter s c s.rows (length s.rows ∷ []) (unbound 0)
  rival s c j false = enter s c (set s.rows j (unbound 0)) (j ∷ []) (bound c)

  -- The newest slot's claim c meets the row that the search for its path came to; where that holds nothing, the newcomer is bound.
  abbrev pub meet : State → Claim Path → ℕ → Row Path → State
  meet s c j (unbound g) = enter s c s.rows [] (bound c)
  meet s c j (bound d) = rival s c j (stands d c)

  -- One more slot, with its header.
  unfoldable pub step : State → Head Path → State
  step s absent = spare s absent
  step s (idle g) = spare s (idle g)
  step s (claim c) = meet s c (find c.path s.rows) (row_at s.rows (find c.path s.rows))

  -- n more slots by the headers H, lowest first.
  unfoldable pub scan : (ℕ → Head Path) → ℕ → State → State
  scan H zero s = s
  scan H (suc n) s = step (scan H n s) (H (length (scan H n s).rows))

  -- "Join the queue's end", unless a call failed: "the slot is then neither bound nor free".
  abbrev pub joins : Bool → List ℕ → ℕ → List ℕ
  joins true q i = q ++ (i ∷ [])
  joins false q i = q

  -- "Release. Unbind under a new generation, length 0; write the free header, flush, truncate to 0, join the queue's end."
  unfoldable pub release : State → ℕ → State
  release s i =
      record {
        rows = set s.rows i (unbound s.counter);
        queue = joins (fine s.device i s.counter) s.queue i;
        losers = s.losers;
        dirs = s.dirs;
        counter = suc s.counter;
        device = free s.device i s.counter;
      }

  -- "Losers are released in the order found; a failed release is passed over."
  unfoldable pub drain : List ℕ → State → State
  drain [] s = s
  drain (i ∷ is) s = drain is (release s i)

  -- "Read all headers first": the pool as it is then, no loser found yet.
  abbrev pub read_all : ℕ → State → State
  read_all n s = record { rows = s.rows; queue = s.queue; losers = []; dirs = s.dirs; counter = s.counter; device = seen s.device (length s.rows) n }

  -- n more slots looked through, and nothing released yet.
  unfoldable pub survey : ℕ → State → State
  survey n s = scan (head s.device) n (read_all n s)

  -- Adopt n more slots of the device.
  unfoldable pub adopt : ℕ → State → State
  adopt n s = drain (survey n s).losers (survey n s)

  -- Mount n slots: adopt them into the empty pool.
  unfoldable pub mount : ℕ → Device → State
  mount n w = adopt n (empty w)

  -- Adopting n more slots isn't refused, for `slots` slots, which rows and device both have, and `dir_rows` directory rows: the refusals
  -- 12, 8 and 9 of 01, "Numbers that come back". (10 comes from a header read that fails; `seen` has none.)
  pub record Accepts (slots dir_rows n : ℕ) (s : State) : Type 0 where
    pub slots_fit : length s.rows + n ≤ slots
    pub dirs_fit : length (survey n s).dirs ≤ dir_rows
    pub gens_fit : (survey n s).counter + length (survey n s).losers ≤ last_counter
