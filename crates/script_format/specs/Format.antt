-- The format of a script, in the order of docs/EXPORTS.md: "All numbers are unsigned and little-endian." A place is an index of the script s.
use Rattle.std.specs.Prelude.{ℕ, zero, suc, ◌+◌, ◌-◌, ◌*◌, ◌^◌, Bool, cond, not, ◌&&◌, List, [], ◌∷◌, Option, Some, None, eqb, leb, ltb, length, get_or, take, drop}
use Rattle.std.specs.Option.{option_map, option_and_then}
use Rattle.std.proofs.lemmas.List.Edits.{sets}
use Rattle.le.specs.Le.{field}
use Rattle.script_format.specs.declared.Span.{Span}
use Rattle.script_format.specs.declared.Form.{Form}
use Rattle.script_format.specs.declared.Op.{Op}
use Rattle.script_format.specs.declared.Setup.{Setup}

-- ---- runs

abbrev pub span : ℕ → ℕ → Span
span a e = record { from = a; to = e }

-- "A run is a u16 length and that many bytes." None where it is cut off.
unfoldable pub span_at : List ℕ → ℕ → Option Span
span_at s i =
    cond (leb (i + 2) (length s))
    (cond (leb (i + 2 + field s i 2) (length s)) (Some (span (i + 2) (i + 2 + field s i 2))) None)
    None

-- A run that an operation may have: where it has none, it is empty.
unfoldable pub span_if : Bool → List ℕ → ℕ → Option Span
span_if wanted s i = cond wanted (span_at s i) (Some (span i i))

-- The bytes of a run.
abbrev pub run_in : List ℕ → Span → List ℕ
run_in s r = take (r.to - r.from) (drop r.from s)

-- ---- operations

-- A row of the table: whether it is an operation's; widths of slot, flag, length, generation, offset or length, and small number; count of
-- runs; and, of the answer, widths of slot, generation, length, count and yes.
abbrev pub row : ℕ → ℕ → ℕ → ℕ → ℕ → ℕ → ℕ → ℕ → ℕ → ℕ → ℕ → ℕ → ℕ → Form
row used slot flag len generation pos n runs slot' generation' len' count' yes' = record {
  used = used;
  slot = slot;
  flag = flag;
  len = len;
  generation = generation;
  at = pos;
  n = n;
  runs = runs;
  gives_slot = slot';
  gives_generation = generation';
  gives_len = len';
  gives_count = count';
  gives_yes = yes';
}

-- The row of an operation, and of a number that is no operation's.
abbrev pub form : ℕ → ℕ → ℕ → ℕ → ℕ → ℕ → ℕ → ℕ → ℕ → ℕ → ℕ → ℕ → Form
form = row 1

abbrev pub no_form : Form
no_form = row 0 0 0 0 0 0 0 0 0 0 0 0 0

-- The table of codes. A handle is "slot u32, generation u64"; the bytes of a buffer that was lent come behind the numbers.
abbrev pub forms : List Form
forms =
    no_form
    ∷ form 0 0 0 0 0 1 0 0 0 0 0 0  -- 1 mount: u8 slots asked for
    ∷ form 0 0 0 0 0 1 0 0 0 0 0 0  -- 2 adopt: u8 slots asked for
    ∷ form 0 0 0 0 0 1 1 4 8 8 0 0  -- 3 open_write: u8 keep, run path; slot u32, generation u64, length u64
    ∷ form 0 0 0 0 0 0 1 4 8 0 0 0  -- 4 open_read: run path; slot u32, generation u64
    ∷ form 4 0 0 8 8 2 0 0 0 0 4 0  -- 5 read: handle, u64 at, u16 buffer length; count u32
    ∷ form 4 0 0 8 8 0 1 0 0 0 0 0  -- 6 write: handle, u64 at, run bytes
    ∷ form 4 0 0 8 8 0 0 0 0 0 0 0  -- 7 set_len: handle, u64 length
    ∷ form 4 0 0 8 0 0 0 0 0 8 0 0  -- 8 file_len: handle; u64
    ∷ form 4 0 0 8 0 0 0 0 0 0 0 0  -- 9 sync: handle
    ∷ form 0 0 0 0 0 0 1 0 0 0 0 0  -- 10 sync_dir: run path
    ∷ form 0 0 0 0 0 0 2 0 0 0 0 0  -- 11 rename: run from, run to
    ∷ form 0 0 0 0 0 0 1 0 0 0 0 0  -- 12 remove: run path
    ∷ form 0 0 0 0 0 0 1 0 0 0 0 0  -- 13 create_dir_all: run path
    ∷ form 0 0 0 0 0 2 1 0 0 0 4 0  -- 14 read_dir: u16 buffer length, run path; bytes written u32
    ∷ form 0 0 0 0 0 0 1 0 0 0 0 1  -- 15 exists: run path; u8
    ∷ form 0 0 0 0 0 0 1 0 0 8 0 1  -- 16 metadata: run path; length u64, u8 is a directory
    ∷ no_form  -- 17 is no code
    ∷ no_form  -- 18 is no code
    ∷ no_form  -- 19 is no code
    ∷ no_form  -- 20 is no code
    ∷ no_form  -- 21 is no code
    ∷ form 4 0 0 0 8 2 0 0 0 0 4 0  -- 22 read_slot: u32 slot, u64 at, u16 buffer length; count u32
    ∷ form 4 0 0 0 8 0 1 0 0 0 0 0  -- 23 write_slot: u32 slot, u64 at, run bytes
    ∷ form 4 1 8 8 0 0 1 0 0 0 0 0  -- 24 sync_slot: u32 slot, u8 in use, u64 length, u64 generation, run path
    ∷ form 4 0 0 0 0 0 0 0 0 0 0 0  -- 25 flush_slot: u32 slot
    ∷ form 4 0 8 0 0 0 0 0 0 0 0 0  -- 26 truncate_slot: u32 slot, u64 length
    ∷ []

-- The last of the codes.
abbrev pub last_code : ℕ
last_code = 26

unfoldable pub form_of : ℕ → Form
form_of code = get_or forms code no_form

-- "a code of the table": its row is an operation's.
unfoldable pub is_code : ℕ → Bool
is_code code = not (eqb (form_of code).used 0)

-- Where the generation stands, behind slot, flag and length.
abbrev pub generation_at : ℕ → Form → ℕ
generation_at i f = i + f.slot + f.flag + f.len

-- The operation whose numbers are read, and whose runs are these.
unfoldable pub op_of : List ℕ → ℕ → ℕ → Form → Span → Span → Op
op_of s i code f a b =
    record {
      code = code;
      slot = field s i f.slot;
      flag = field s (i + f.slot) f.flag;
      len = field s (i + f.slot + f.flag) f.len;
      generation = field s (generation_at i f) f.generation;
      at = field s (generation_at i f + f.generation) f.at;
      n = field s (generation_at i f + f.generation + f.at) f.n;
      first = a;
      second = b;
    }

-- Where the runs start.
abbrev pub runs_at : ℕ → Form → ℕ
runs_at i f = generation_at i f + f.generation + f.at + f.n

-- With its first run: none where the second is cut off.
abbrev pub behind_first : List ℕ → ℕ → ℕ → Form → Span → Option Op
behind_first s i code f a = option_map (op_of s i code f a) (span_if (leb 2 f.runs) s a.to)

-- The operation of this code, whose arguments are at i: none where one of its runs is cut off.
unfoldable pub args_of : List ℕ → ℕ → ℕ → Option Op
args_of s i code =
    cond (leb (runs_at i (form_of code)) (length s))
    (option_and_then (behind_first s i code (form_of code))
    (span_if (leb 1 (form_of code).runs) s (runs_at i (form_of code))))
    None

-- The operation at i: none where it "is cut off or has no code of the table".
unfoldable pub op_at : List ℕ → ℕ → Option Op
op_at s i =
    cond (leb (length s) i) None
    (cond (is_code (get_or s i 0)) (args_of s (i + 1) (get_or s i 0)) None)

-- "operations to the end": those from i on, at most k of them. "The script ends before the first operation that is cut off or has no code".
unfoldable pub operations : ℕ → List ℕ → ℕ → List Op
operations zero s i = []
operations (suc k) s i = elim (op_at s i) [ None ↦ [] | Some o ↦ o ∷ operations k s o.second.to ]

-- ---- the setup

-- "the script's own limits: 64 device slots, 65,536 device bytes in all, 66 slot rows, 258 directory rows"
unfoldable pub limits_ok : ℕ → ℕ → ℕ → ℕ → Bool
limits_ok slots rows dir_rows size = leb slots 64 && (leb rows 66 && (leb dir_rows 258 && leb (slots * size) 65536))

-- The setup with these counts and this plan: "D x u32 physical lengths", "u16 count of patches". None where it is cut off.
unfoldable pub behind_plan : List ℕ → ℕ → ℕ → ℕ → ℕ → Option Span → Option Setup
behind_plan s slots rows dir_rows size None = None
behind_plan s slots rows dir_rows size (Some plan) =
    cond (leb (plan.to + slots * 4 + 2) (length s))
    (Some (record {
      slots = slots;
      rows = rows;
      dir_rows = dir_rows;
      size = size;
      plan = plan;
      phys = plan.to;
      count = field s (plan.to + slots * 4) 2;
      patches = plan.to + slots * 4 + 2;
    }))
    None

-- "u8 1, u8 D, u8 slot rows, u16 directory rows, u32 slot size, run the plan ..". A script of 2^40 bytes passes the limits, too. None where
-- it is cut off, or passes the limits.
unfoldable pub setup_at : List ℕ → Option Setup
setup_at s =
    cond (leb (2 ^ 40) (length s)) None
    (cond (ltb (length s) 9) None
    (cond (eqb (get_or s 0 0) 1)
    (cond (limits_ok (get_or s 1 0) (get_or s 2 0) (field s 3 2) (field s 5 4))
    (behind_plan s (get_or s 1 0) (get_or s 2 0) (field s 3 2) (field s 5 4) (span_at s 9))
    None)
    None))

-- Physical length k of those at i.
unfoldable pub length_at : List ℕ → ℕ → ℕ → ℕ
length_at s i k = field s (i + k * 4) 4

-- ---- patches: "each: u32 place in the whole device, run of bytes"

-- The place behind a patch, and the device with it: no place where it isn't laid.
pub record Patching : Type 0 where
  pub behind : Option ℕ
  pub bytes : List ℕ

abbrev pub patching : Option ℕ → List ℕ → Patching
patching r d = record { behind = r; bytes = d }

-- The run r, laid over the device d from `place` on: not where "a patch [is] outside of the device".
abbrev pub placed : List ℕ → ℕ → Option Span → List ℕ → Patching
placed s place None d = patching None d
placed s place (Some r) d = cond (leb (place + (r.to - r.from)) (length d)) (patching (Some r.to) (sets d place (run_in s r))) (patching None d)

unfoldable pub patch_at : List ℕ → ℕ → List ℕ → Patching
patch_at s i d = cond (leb (i + 4) (length s)) (placed s (field s i 4) (span_at s (i + 4)) d) (patching None d)

-- The patches from i on, in order, and the place behind them: not where one of them is cut off or outside.
unfoldable pub patched_m : List ℕ → ℕ → ℕ → List ℕ → Patching
patched_m s zero i d = patching (Some i) d
patched_m s (suc k) i d =
    elim ((patch_at s i d).behind) [
      | None ↦ patching None (patch_at s i d).bytes
      | Some j ↦ patched_m s k j (patch_at s i d).bytes
    ]
