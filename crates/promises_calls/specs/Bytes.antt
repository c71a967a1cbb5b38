-- What was written is read, and what was synced is found.
use Rattle.std.specs.Prelude.{Some}
use Rattle.std.specs.Prelude.{ℕ, ◌+◌, ◌^◌, ◌≤◌, ◌<◌, ◌≡◌, ◌≢◌, ◌⊎◌, true, List, length, get_or}
use Rattle.header.specs.Block.{bound_header}
use Rattle.header.specs.Block as Block
use Rattle.device.specs.declared.Geometry.{Geometry}
use Rattle.device.specs.Device.{Dev, turn, phys_of}
use Rattle.device.specs.Slots.{part_of}
use Rattle.device.specs.Calls.{read_all, block_of}
use Rattle.slot_rows.specs.Rows.{Row, at, path_of, gen_of, len_of, is_dirty}
use Rattle.pool_state.specs.State.{view}
use Rattle.pool_steps.specs.World.{Lent}
use Rattle.device.specs.Calls.{SlotStays}
use Rattle.pool_steps.specs.Steps.{says}
use Rattle.mount_survey.specs.Heads.{claim, head_of}
use Rattle.calls_gate.specs.declared.Call.TheVariants.{ReadAt, WriteAt, Sync}
use Rattle.calls_gate.specs.Calls.{call_p}

-- The row of slot i in what is lent.
abbrev pub row_in : Lent → ℕ → Row
row_in l i = at (view l.bufs).rows i

-- ---- write_at

-- The byte of slot i at place k; the file's bytes begin at place 512.
abbrev pub byte_at : Geometry → Dev → ℕ → ℕ → ℕ
byte_at g d i k = get_or (part_of g.size i d.bytes) k 0

-- What a write of b at file offset pos of the slot made of l.
pub record Written (g : Geometry) (slot generation pos : ℕ) (b : List ℕ) (l left : Lent) : Type 0 where
  -- "reading that range through the handle, where the plan leaves the read alone, gives b": under whatever plan neither fails nor halves it
  pub reads : (plan one two into : List ℕ) → length into ≡ length b → read_all (turn plan left.dev.place) (length b) ≡ true
      → let x = call_p plan g (ReadAt slot generation pos) one two into left in
      (x.number ≡ 0) × (x.told.count ≡ length b) × (x.buf ≡ b)
  -- "each other byte of the slot below its old physical length stays"
  pub rest : (k : ℕ) → k < phys_of slot l.dev → (k < 512 + pos) ⊎ (512 + pos + length b ≤ k)
      → byte_at g left.dev slot k ≡ byte_at g l.dev slot k
  -- "no other slot changes", neither on the card nor in its row
  pub others : (j : ℕ) → j ≢ slot → SlotStays g j l.dev left.dev × (row_in left j ≡ row_in l j)

-- "write_at of b at p answers 0."
abbrev pub WhatWasWrittenIsRead : Type 0
WhatWasWrittenIsRead =
    (plan : List ℕ) (g : Geometry) (slot generation pos : ℕ) (b two buf : List ℕ) (l : Lent)
    → let x = call_p plan g (WriteAt slot generation pos) b two buf l in
    x.number ≡ 0 → Written g slot generation pos b l x.left

-- ---- sync

-- The slot's header on the device is that of the row r.
pub record Synced (g : Geometry) (slot : ℕ) (r : Row) (d : Dev) : Type 0 where
  -- "the slot's header decodes to exactly the row's path, generation and length"
  pub decodes : says g slot d ≡ Some (bound_header (length (path_of r)) (len_of r) (gen_of r))
  pub path : Block.path_of (block_of g slot d) ≡ path_of r
  -- so that a mount finds a claim of them; a header of the empty path claims nothing
  pub claims : 0 < length (path_of r) → head_of (block_of g slot d) ≡ claim (path_of r) (gen_of r) (len_of r)

-- "sync of a dirty file answers 0." A length is a number of 64 bits wherever a record holds it; a header has eight bytes for it.
abbrev pub WhatWasSyncedIsFound : Type 0
WhatWasSyncedIsFound =
    (plan : List ℕ) (g : Geometry) (slot generation : ℕ) (one two buf : List ℕ) (l : Lent)
    → let x = call_p plan g (Sync slot generation) one two buf l in
    x.number ≡ 0 → is_dirty (row_in l slot) ≡ true → len_of (row_in l slot) < 2 ^ 64 → Synced g slot (row_in l slot) x.left.dev
