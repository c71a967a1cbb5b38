-- What a line of the command program comes to: 01, "The command program". Every command but `dump` is made of the public calls.
use Rattle.std.specs.Prelude.{ℕ, false, cond, List, [], eqb}
use Rattle.device.specs.declared.Geometry.{Geometry}
use Rattle.pool_steps.specs.World.{Lent}
use Rattle.calls_gate.specs.declared.Call.{Call}
use Rattle.calls_gate.specs.declared.Call.TheVariants.{OpenWrite, OpenRead, Sync, Rename, RemoveFile}
use Rattle.calls_gate.specs.Replies.{Came}
use Rattle.calls_gate.specs.Table.{opening}
use Rattle.calls_gate.specs.Calls.{call_p}
use Rattle.output.specs.Writer.{Shown, poured}
use Rattle.line_words.specs.Commands.{Request, create, sync, remove, move, dump, what, request_of}
use Rattle.line_answers.specs.Answers.{what_text, no_text, end_text, open_text}
use Rattle.line_dump.specs.Dump.{dump_answer}

-- "Four slots of 1,024 bytes .. empty plan": the size of a slot.
abbrev pub card : Geometry
card = record { size = 1024 }

-- What a call comes to on the program's device. None of its calls fills a buffer.
unfoldable pub on_card : Call → List ℕ → List ℕ → Lent → Came
on_card c one two l = call_p [] card c one two [] l

-- What is answered, and what is left behind.
pub record Response : Type 0 where
  pub text : List ℕ
  pub left : Lent

abbrev pub response : List ℕ → Lent → Response
response t l = record { text = t; left = l }

-- ---- the commands

-- By the number of a call: "`ok` .., `no N` for a refusal".
abbrev pub by_number : Came → Response
by_number x = response (end_text x.number) x.left

-- "`ok SLOT GEN LEN` for create".
abbrev pub by_handle : Came → Response
by_handle x = response (open_text x.number x.told.slot x.told.generation x.told.len) x.left

-- A call that is answered by its number.
unfoldable pub number_t : Call → List ℕ → List ℕ → Lent → Response
number_t c one two l = by_number (on_card c one two l)

-- "`create P` (truncating open)"
unfoldable pub create_t : List ℕ → Lent → Response
create_t path l = by_handle (on_card (OpenWrite (opening false)) path [] l)

-- "`sync` opens for reading, then syncs."
unfoldable pub sync_t : List ℕ → Lent → Response
sync_t path l =
    let x = on_card OpenRead path [] l in
    cond (eqb x.number 0) (number_t (Sync x.told.slot x.told.generation) [] [] x.left) (response (no_text x.number) x.left)

-- ---- a line

unfoldable pub request_t : Request → Lent → Response
request_t (create p) l = create_t p l
request_t (sync p) l = sync_t p l
request_t (remove p) l = number_t RemoveFile p [] l
request_t (move a b) l = number_t Rename a b l
request_t dump l = response (dump_answer l.bufs) l
request_t what l = response what_text l

unfoldable pub line_t : List ℕ → Lent → Response
line_t line l = request_t (request_of line) l

-- ---- with the buffer that takes the answer

pub record Printed : Type 0 where
  pub shown : Shown
  pub left : Lent

abbrev pub printed : Shown → Lent → Printed
printed s l = record { shown = s; left = l }

-- The answer goes to the buffer as far as that reaches.
unfoldable pub prints : Response → List ℕ → Printed
prints t out = printed (poured t.text out) t.left
