-- One operation of a script: the call that docs/EXPORTS.md's table has for its code, and its answer. s is the script, l what is lent.
use Rattle.std.specs.Prelude.{ℕ, Bool, false, cond, not, List, ◌++◌, eqb, leb, replicate}
use Rattle.le.specs.Le.{le}
use Rattle.device.specs.declared.Geometry.{Geometry}
use Rattle.device.specs.Device.{Dev}
use Rattle.slot_calls.specs.SlotCalls.{SlotDone, SlotRead, slot_read, read_slot_m, write_slot_m, sync_slot_m, flush_slot_m, truncate_slot_m}
use Rattle.pool_steps.specs.World.{Lent, lent}
use Rattle.script_format.specs.declared.Op.{Op}
use Rattle.script_format.specs.Format.{run_in, form_of}
use Rattle.output.specs.Writer.{Shown, pours}
use Rattle.calls_gate.specs.declared.Call.{Call}
use Rattle.calls_gate.specs.declared.Call.TheVariants.{Mount, Adopt, OpenWrite, OpenRead, ReadAt, WriteAt, SetLen, FileLen}
use Rattle.calls_gate.specs.declared.Call.TheVariants.{Sync, SyncDir, Rename, RemoveFile, CreateDirAll, ReadDir, Exists, Metadata}
use Rattle.calls_gate.specs.declared.Told.{Told}
use Rattle.calls_gate.specs.Replies.{telling, Came, came}
use Rattle.calls_gate.specs.Table.{opening}
use Rattle.calls_gate.specs.Calls.{call_p}

-- ---- the table

-- 5 to 9. A handle is "slot u32, generation u64"; then "u64 at" or "u64 length".
unfoldable pub on_handle : Op → Call
on_handle o =
    cond (eqb o.code 5) (ReadAt o.slot o.generation o.at)
    (cond (eqb o.code 6) (WriteAt o.slot o.generation o.at)
    (cond (eqb o.code 7) (SetLen o.slot o.generation o.at)
    (cond (eqb o.code 8) (FileLen o.slot o.generation)
    (Sync o.slot o.generation))))

-- 10 to 16. "run path", and rename "run from, run to".
unfoldable pub on_path : ℕ → Call
on_path code =
    cond (eqb code 10) SyncDir
    (cond (eqb code 11) Rename
    (cond (eqb code 12) RemoveFile
    (cond (eqb code 13) CreateDirAll
    (cond (eqb code 14) ReadDir
    (cond (eqb code 15) Exists
    Metadata)))))

-- The call of an operation. 1 and 2: "u8 slots asked for"; 3: "u8 keep (0 truncates)".
unfoldable pub call_of : Op → Call
call_of o =
    cond (eqb o.code 1) (Mount o.n)
    (cond (eqb o.code 2) (Adopt o.n)
    (cond (eqb o.code 3) (OpenWrite (opening (not (eqb o.n 0))))
    (cond (eqb o.code 4) OpenRead
    (cond (leb o.code 9) (on_handle o) (on_path o.code)))))

-- 23 to 26, on a slot of the device d; `run` is the bytes, or the path. "u32 slot", then "u64 at", or "u8 in use, u64 length, u64
-- generation", or "u64 length".
unfoldable pub change_slot : List ℕ → Geometry → Op → List ℕ → Dev → SlotDone
change_slot plan g o run d =
    cond (eqb o.code 23) (write_slot_m plan g o.slot o.at run d)
    (cond (eqb o.code 24) (sync_slot_m plan g o.slot o.flag run o.len o.generation d)
    (cond (eqb o.code 25) (flush_slot_m plan g o.slot d)
    (truncate_slot_m plan g o.slot o.len d)))

-- 22 to 26. Only 22 reads: the others leave the buffer.
unfoldable pub on_slot : List ℕ → Geometry → Op → List ℕ → List ℕ → Dev → SlotRead
on_slot plan g o run buf d =
    cond (eqb o.code 22) (read_slot_m plan g o.slot o.at buf d)
    (slot_read (change_slot plan g o run d).number 0 buf (change_slot plan g o run d).dev)

-- What a call on a slot tells, and leaves of what is lent: the pool's record and rows stay.
abbrev pub slot_came : Lent → SlotRead → Came
slot_came l x = came x.number (telling 0 0 0 x.count false) (lent x.dev l.bufs) x.buf

-- The call of an operation, which is handed this buffer: of a slot from code 22 on, else of the pool.
unfoldable pub made_m : List ℕ → List ℕ → Geometry → Op → List ℕ → Lent → Came
made_m s plan g o buf l =
    cond (leb 22 o.code) (slot_came l (on_slot plan g o (run_in s o.first) buf l.dev))
    (call_p plan g (call_of o) (run_in s o.first) (run_in s o.second) buf l)

-- ---- the answer

abbrev pub bit : Bool → ℕ
bit b = cond b 1 0

-- "u8 number (0 done, else 01's), then the results, of the same length for the same operation": what a call tells, as wide as the table
-- says, and the buffer.
unfoldable pub answer_m : Op → ℕ → Told → List ℕ → List ℕ
answer_m o n t buf =
    let f = form_of o.code in
    le 1 n ++ le f.gives_slot t.slot ++ le f.gives_generation t.generation ++ le f.gives_len t.len
    ++ le f.gives_count t.count ++ le f.gives_yes (bit t.yes) ++ buf

-- "A u16 buffer length means the call is handed a buffer of that length."
unfoldable pub room : Op → ℕ
room o = cond (eqb (form_of o.code).n 2) o.n 0

-- What an operation answers, and what it leaves.
pub record Said : Type 0 where
  pub answer : List ℕ
  pub left : Lent

abbrev pub said : List ℕ → Lent → Said
said a l = record { answer = a; left = l }

abbrev pub said_of : Op → Came → Said
said_of o c = said (answer_m o c.number c.told c.buf) c.left

-- Its answer.
unfoldable pub answered_m : List ℕ → List ℕ → Geometry → Op → List ℕ → Lent → Said
answered_m s plan g o buf l = said_of o (made_m s plan g o buf l)

-- The buffer is "all 0xAA before the call".
unfoldable pub op_m : List ℕ → List ℕ → Geometry → Op → Lent → Said
op_m s plan g o l = answered_m s plan g o (replicate (room o) 170) l

-- ---- output and buffers together

pub record Reached : Type 0 where
  pub shown : Shown
  pub lent : Lent

abbrev pub reached : Shown → Lent → Reached
reached o l = record { shown = o; lent = l }

-- What is said goes to the output.
unfoldable pub spoken : Said → Shown → Reached
spoken x o = reached (pours x.answer o) x.left
