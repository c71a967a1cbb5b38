-- 01, "Both sides of each edge": table P, row by row in its order, each row under 01's sentence and with its other side, and at the end
-- the table as one statement. The calls are those of `pool::call`. proofs/Table.antt proves it: `table_p`.
use Rattle.std.specs.Prelude.{Option, Some}
use Rattle.std.specs.Prelude.{ℕ, ◌+◌, ◌-◌, ◌≤◌, ◌<◌, ◌^◌, min, ◌≡◌, ◌≢◌, Bool, true, false, List, [], ◌∷◌, ◌++◌, length, get_or, take, drop}
use Rattle.limits.specs.Limits.{max_path, last_counter}
use Rattle.lists.specs.Distinct.{In}
use Rattle.text.specs.Text.{is_text}
use Rattle.header.specs.declared.Header.{Header}
use Rattle.header.specs.Block.{path_of, decoded}
use Rattle.path.specs.Path.{same_path, ancestors}
use Rattle.device.specs.declared.Place.{Place}
use Rattle.device.specs.Device.{dev, Shape, turn, phys_of, given, seen}
use Rattle.device.specs.Slots.{part_of}
use Rattle.device.specs.Calls.{block_of}
use Rattle.slot_rows.specs.Rows.{Row, file, bound, at, is_bound, len_of, find}
use Rattle.dir_rows.specs.Dirs.{registered}
use Rattle.pool_state.specs.State.{State}
use Rattle.pool_steps.specs.World.{lent, Ready}
use Rattle.mount_survey.specs.Heads.{Head, absent, claim}
use Rattle.mount_survey.specs.Staged.{wants}
use Rattle.inner_handle.specs.Handles.{is_live}
use Rattle.inner_open.specs.Files.{is_file}
use Rattle.calls_gate.specs.declared.Call.TheVariants.{Mount, OpenWrite, ReadAt, Rename}
use Rattle.calls_gate.specs.Table.{opening, slot_rows, dir_rows, rows_b}
use Rattle.calls_gate.specs.Replies.{telling, nothing, came}
use Rattle.pool.specs.Face.{Asked, Left, lent_of, Entered}
use Rattle.promises_mount.specs.Words.{header_at, Untouched, Holds, Registered}
use Rattle.promises.specs.Face.{number, held, came_of, device_of, held_before}
use Rattle.promises.specs.Stays.{Follows}

-- ---- the calls

-- A call on a pool with its device, and what it left.
pub record Setting : Type 0 where
  pub ask : Asked
  pub ready : Ready ask.geometry (lent_of ask)
  pub left : Left
  pub made : Entered ask left

-- What the pool holds before it.
abbrev pub state : Setting → State
state c = held_before c.ask

-- It gave this number, told nothing, and changed nothing of all that was lent.
abbrev pub Unchanged : Setting → ℕ → Type 0
Unchanged c n = came_of c.left ≡ came n nothing (lent_of c.ask) c.ask.buf

-- The plan leaves the next call alone: its byte is not 1 or 2.
abbrev pub Spared : List ℕ → Place → Type 0
Spared plan p = (turn plan p ≢ 1) × (turn plan p ≢ 2)

-- A mount of k slots, and what it left. What the record and the rows hold before it is all one.
pub record Mounting : Type 0 where
  pub ask : Asked
  pub k : ℕ
  pub mounts : ask.call ≡ Mount k
  pub left : Left
  pub made : Entered ask left

module _ (m : Mounting) where
  -- What slot i's header says, and the header itself.
  abbrev pub head : ℕ → Head
  head = header_at m.ask.geometry (device_of m.ask)

  abbrev pub block : ℕ → List ℕ
  block i = block_of m.ask.geometry i (device_of m.ask)

  abbrev pub valid : ℕ → Option Header
  valid i = decoded (block i) (length (block i))

  -- Slot i claims no path.
  abbrev pub Claimless : ℕ → Type 0
  Claimless i = (p : List ℕ) (e l : ℕ) → head i ≢ claim p e l

  -- The pool that it leaves, and its rows.
  abbrev pub held_after : State
  held_after = held m.left

  abbrev pub rows : List Row
  rows = held_after.rows

  -- It is accepted, and its header reads are not touched.
  pub record Accepted : Type 0 where
    pub reads : Untouched m.ask.plan 0 m.k (device_of m.ask)
    pub answer : number m.left ≡ 0

  -- Slot i is free: unbound, and in the queue.
  pub record Free (i : ℕ) : Type 0 where
    pub unbound : is_bound (at rows i) ≡ false
    pub queued : In i held_after.queue

  -- A path is found: in a slot that was mounted, which is bound to an equal path.
  pub record FoundAt (path : List ℕ) : Type 0 where
    pub inside : find path rows < m.k
    pub held : (p : List ℕ) × (e : ℕ) × (l : ℕ) × (same_path path p ≡ true) × Holds rows (find path rows) p e l

-- ---- P1

-- A new file of this path: no file has it, and there are rows for its missing ancestors (a path of 480 bytes may have 240).
pub record NewFile (path : List ℕ) (s : State) : Type 0 where
  pub text : is_text path ≡ true
  pub new : is_file path s ≡ false
  pub dirs : length (registered s.dirs path) ≤ s.chosen.dir_rows

module _ (c : Setting) where
  -- What else an open needs: a free slot, a generation that is left, and a truncate that the plan leaves alone.
  pub record Able : Type 0 where
    pub free : 0 < length (state c).queue
    pub left : (state c).counter < last_counter
    pub calm : Spared c.ask.plan c.ask.at

  -- It opens: 0, with a handle of the first free slot under the next generation, and this slot is the file's.
  abbrev pub slot : ℕ
  slot = get_or (state c).queue 0 0

  pub record Opens : Type 0 where
    pub answer : number c.left ≡ 0
    pub told : c.left.reply.told ≡ telling slot (state c).counter 0 0 false
    pub file : at (held c.left).rows slot ≡ bound c.ask.first (file (state c).counter 0 true)
    pub buf : c.left.buf ≡ c.ask.buf

  -- "P1 480-byte path opens, 481 gets 4": 4 whatever else is so of a path that is text.
  unfoldable pub P1 : Type 0
  P1 = (keep : Bool) → c.ask.call ≡ OpenWrite (opening keep)
      → (length c.ask.first ≤ max_path → NewFile c.ask.first (state c) → Able → Opens)
      × (max_path < length c.ask.first → is_text c.ask.first ≡ true → Unchanged c 4)

-- ---- P2, P3

module _ (m : Mounting) where
  -- "P2 equal generations keep the lower slot." Of two slots that alone claim a path the lower holds it where its generation is equal or
  -- higher, and the higher slot holds it where its generation is higher.
  unfoldable pub P2 : Type 0
  P2 = (i j : ℕ) (p q : List ℕ) (e f l n : ℕ) → i < j → j < m.k → head m i ≡ claim p e l → head m j ≡ claim q f n → same_path p q ≡ true
      → ((x : ℕ) (r : List ℕ) (u v : ℕ) → x < m.k → x ≢ i → x ≢ j → head m x ≡ claim r u v → same_path p r ≡ false)
      → (f ≤ e → Holds (rows m) i p e l × (is_bound (at (rows m) j) ≡ false))
      × (e < f → Holds (rows m) j q f n × (is_bound (at (rows m) i) ≡ false))

  -- "P3 in-use header with empty path is free"; with another path, that path is found.
  unfoldable pub P3 : Type 0
  P3 = (i : ℕ) (h : Header) → i < m.k → valid m i ≡ Some h → h.in_use ≡ true
      → (h.path_len ≡ 0 → Free m i) × (0 < h.path_len → FoundAt m (path_of (block m i)))

-- ---- P4, P5

module _ (c : Setting) where
  -- The bytes that the device gives of the file in slot i from pos on: as many as the buffer takes and the file has.
  abbrev pub wanted : ℕ → ℕ → ℕ
  wanted i pos = min (length c.ask.buf) (len_of (at (state c).rows i) - pos)

  abbrev pub gives : ℕ → ℕ → List ℕ
  gives i pos = given c.ask.plan c.ask.geometry i (512 + pos) (wanted i pos) (device_of c.ask)

  -- "P4 read at length gives 0", with a live handle: no byte, no device call, and the buffer stays. Before the length the count and the
  -- bytes are the device's, and only the plan's place moves; they are what lies in the slot where the plan leaves the read alone.
  unfoldable pub P4 : Type 0
  P4 = (i generation pos : ℕ) → c.ask.call ≡ ReadAt i generation pos → is_live i generation (state c).rows ≡ true
      → (len_of (at (state c).rows i) ≤ pos → Unchanged c 0)
      × (pos < len_of (at (state c).rows i)
      → came_of c.left
      ≡ came (seen c.ask.plan c.ask.at).last (telling 0 0 0 (length (gives i pos)) false)
      (lent (dev c.ask.bytes c.ask.phys (seen c.ask.plan c.ask.at)) (lent_of c.ask).bufs)
      (gives i pos ++ drop (length (gives i pos)) c.ask.buf))
      × (Spared c.ask.plan c.ask.at
      → ((seen c.ask.plan c.ask.at).last ≡ 0)
      × (gives i pos
      ≡ take (wanted i pos) (drop (512 + pos) (take (phys_of i (device_of c.ask)) (part_of c.ask.geometry.size i c.ask.bytes)))))

  -- A rename that changes nothing, or gives 5 if `from` is absent.
  abbrev pub Unmoved : Type 0
  Unmoved =
      (is_file c.ask.first (state c) ≡ true → Unchanged c 0)
      × (is_file c.ask.first (state c) ≡ false → Unchanged c 5)

  -- "P5 `a` renamed to `a/` changes nothing; 5 if absent", and so is any path renamed to an equal one that isn't too long.
  unfoldable pub P5 : Type 0
  P5 = c.ask.call ≡ Rename
      → (c.ask.first ≡ 97 ∷ [] → c.ask.second ≡ 97 ∷ 47 ∷ [] → Unmoved)
      × (is_text c.ask.first ≡ true → is_text c.ask.second ≡ true → length c.ask.second ≤ max_path
      → same_path c.ask.first c.ask.second ≡ true → Unmoved)

-- ---- P6, P7

module _ (m : Mounting) where
  -- There is room for the mount: 2, 12, 10 and 8 are not given.
  pub record HasRoom : Type 0 where
    pub shape : Shape m.ask.geometry m.ask.bytes m.ask.phys
    pub lent : rows_b (lent_of m.ask).bufs.nums m.ask.names m.ask.dirs ≡ true
    pub slots : (m.k ≤ slot_rows (lent_of m.ask).bufs.nums) × (m.k ≤ length m.ask.phys)
    pub reads : Untouched m.ask.plan 0 m.k (device_of m.ask)
    pub dirs : (ds : List (List ℕ)) → Registered (head m) m.k ds → length ds ≤ dir_rows m.ask.dirs

  -- No two slots claim one path: none loses.
  abbrev pub Apart : Type 0
  Apart = (i j : ℕ) (p q : List ℕ) (e f l n : ℕ) → i < m.k → j < m.k → i ≢ j
      → head m i ≡ claim p e l → head m j ≡ claim q f n → same_path p q ≡ false

  -- The next call opens a file for writing.
  pub record NextOpen (ask : Asked) (left : Left) : Type 0 where
    pub follows : Follows m.ask m.left ask
    pub made : Entered ask left
    pub keep : Bool
    pub opens : ask.call ≡ OpenWrite (opening keep)
    pub text : is_text ask.first ≡ true
    pub short : length ask.first ≤ max_path

  -- "P6 generation 2^63 - 1 in a valid header mounts, and a new open then gets 9": none is higher and none loses; and slot j is free for
  -- the open.
  unfoldable pub P6 : Type 0
  P6 = (i : ℕ) (h : Header) → i < m.k → valid m i ≡ Some h → h.generation ≡ last_counter - 1
      → ((j : ℕ) → j < m.k → wants (head m j) ≤ last_counter) → Apart
      → (number m.left ≡ 0)
      × ((ask : Asked) (left : Left) (j : ℕ) → NextOpen ask left → NewFile ask.first (held_before ask) → j < m.k → Claimless m j
      → came_of left ≡ came 9 nothing (lent_of ask) ask.buf)

  -- "P7 2^63 gets 9 at mount", and so does every higher generation, whatever the other headers are.
  unfoldable pub P7 : Type 0
  P7 = (i : ℕ) (h : Header) → i < m.k → valid m i ≡ Some h → last_counter ≤ h.generation → number m.left ≡ 9

  -- ---- P8

  -- "P8 a header of 511 bytes read is absent": the slot's first 512 bytes are a header that claims a path. With a physical length of 511
  -- it is free, with 512 that path is found.
  abbrev pub front : ℕ → List ℕ
  front i = take 512 (part_of m.ask.geometry.size i m.ask.bytes)

  unfoldable pub P8 : Type 0
  P8 = (i : ℕ) (h : Header) → i < m.k → decoded (front i) 512 ≡ Some h → h.in_use ≡ true → 0 < h.path_len
      → (phys_of i (device_of m.ask) ≡ 511 → Free m i) × (phys_of i (device_of m.ask) ≡ 512 → FoundAt m (path_of (front i)))

-- ---- THE TABLE

-- "Proved together as one table (P)."
pub record TableP : Type 0 where
  pub p1 : (c : Setting) → P1 c
  pub p2 : (m : Mounting) → Accepted m → P2 m
  pub p3 : (m : Mounting) → Accepted m → P3 m
  pub p4 : (c : Setting) → P4 c
  pub p5 : (c : Setting) → P5 c
  pub p6 : (m : Mounting) → HasRoom m → P6 m
  pub p7 : (m : Mounting) → HasRoom m → P7 m
  pub p8 : (m : Mounting) → Accepted m → P8 m

-- On a blank device with room the mount is done, and then every path of at most 480 bytes opens whose ancestors fit.
unfoldable pub FromBlank : Type 0
FromBlank = (m : Mounting) → HasRoom m → 0 < m.k → ((i : ℕ) → i < m.k → head m i ≡ absent)
    → (number m.left ≡ 0)
    × ((ask : Asked) (left : Left) → NextOpen m ask left → length (ancestors ask.first) ≤ dir_rows m.ask.dirs
    → Spared ask.plan ask.at → number left ≡ 0)
