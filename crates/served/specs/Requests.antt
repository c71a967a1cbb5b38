-- Requests for the exported calls, and their answers: docs/EXPORTS.md, "Requests".
use Rattle.std.specs.Prelude.{None, Option, Some}
use Rattle.std.specs.Prelude.{ℕ, ◌+◌, ◌-◌, cond, ◌≡◌, refl, List, [], ◌∷◌, ◌++◌, length, take, drop, get_or, replicate, eqb, ltb}
use Rattle.fnv.specs.Fnv.{fnv_from}
use Rattle.le.specs.Le.{le, field, laid}
use Rattle.output.specs.Writer.{poured}
use Rattle.script.specs.Script.{script_m}
use Rattle.harness.specs.Calls.{Outcome, outcome, encode_call, decode_call, text_call, same_call, normal_call, parent_call}

-- ---- what a call is lent, if its body is whole

-- None, behind n bytes of numbers.
unfoldable pub plain_in : ℕ → List ℕ → Option ℕ
plain_in n body = cond (ltb (length body) n) None (Some 0)

-- "o at most 2^20 - 64".
abbrev pub most_lent : ℕ
most_lent = 0xFFFC0

-- As many bytes as "u32 o" at a place says.
unfoldable pub lent_in : ℕ → List ℕ → Option ℕ
lent_in at body = cond (ltb (length body) (at + 4)) None (cond (ltb most_lent (field body at 4)) None (Some (field body at 4)))

-- None, of "u32 length of a, a, b".
unfoldable pub two_in : List ℕ → Option ℕ
two_in body = cond (ltb (length body) 4) None (cond (ltb (length body - 4) (field body 0 4)) None (Some 0))

-- ---- the table

-- How a call is asked and answered: how many bytes its answer has, what it is lent where the body is whole, and what it then comes to.
pub record Export : Type 0 where
  pub width : ℕ
  pub lends : List ℕ → Option ℕ
  pub comes : List ℕ → List ℕ → Outcome

-- A row from its columns.
abbrev pub exported : ℕ → (List ℕ → Option ℕ) → (List ℕ → List ℕ → Outcome) → Export
exported w l c = record { width = w; lends = l; comes = c }

-- slot_check: "u32 start, bytes".
unfoldable pub check_of : List ℕ → ℕ
check_of body = fnv_from (field body 0 4) (drop 4 body)

-- header_encode: "u8 in use, u64 len, u64 generation, u32 o, path".
unfoldable pub encode_of : List ℕ → List ℕ → Outcome
encode_of body = encode_call (field body 0 1) (field body 1 8) (field body 9 8) (drop 21 body)

-- path_same: "u32 length of a, a, b".
unfoldable pub same_of : List ℕ → ℕ
same_of body = same_call (take (field body 0 4) (drop 4 body)) (drop (4 + field body 0 4) body)

-- pool_script: the length of the whole output, and the buffer with as much of it as fits.
unfoldable pub script_of : List ℕ → List ℕ → Outcome
script_of script out = outcome (poured (script_m script) out).at (poured (script_m script) out).out

-- A row for each call, by its number; a number with no row is no call.
unfoldable pub export_of : ℕ → Export
export_of call =
    cond (eqb call 1) (exported 4 (plain_in 4) (λ body. outcome (check_of body)))
    (cond (eqb call 2) (exported 1 (lent_in 17) encode_of)
    (cond (eqb call 3) (exported 1 (lent_in 0) (λ body. decode_call (drop 4 body)))
    (cond (eqb call 4) (exported 1 (plain_in 0) (λ body. outcome (text_call body)))
    (cond (eqb call 5) (exported 1 two_in (λ body. outcome (same_of body)))
    (cond (eqb call 6) (exported 8 (lent_in 0) (λ body. normal_call (drop 4 body)))
    (cond (eqb call 7) (exported 8 (lent_in 0) (λ body. parent_call (drop 4 body)))
    (cond (eqb call 8) (exported 8 (lent_in 0) (λ body. script_of (drop 4 body)))
    (exported 0 (λ body. None) (λ body. outcome 0)))))))))

-- ---- answers

-- The number that a call comes to, and the buffer behind it.
abbrev pub written : ℕ → Outcome → List ℕ
written w c = le w c.answer ++ c.out

-- The answer of a call to a body, for each case of what it is lent: all bytes 0xAA before the call.
abbrev pub answer_for : Export → List ℕ → Option ℕ → List ℕ
answer_for x body None = []
answer_for x body (Some n) = written x.width (x.comes body (replicate n 170))

-- "A request with an unknown call, a body too short for its numbers, or an o above the limit gets the empty answer."
unfoldable pub answer_to : List ℕ → List ℕ
answer_to request =
    let x = export_of (get_or request 0 0) in
    let body = drop 1 request in
    cond (eqb (length request) 0) [] (answer_for x body (x.lends body))

-- An answer for which there is no room is empty.
unfoldable pub fitting : ℕ → List ℕ → List ℕ
fitting room s = cond (ltb room (length s)) [] s

-- Bytes go to the front of a lent buffer; their count is given.
abbrev pub fronted : List ℕ → List ℕ → Outcome
fronted s out = outcome (length s) (laid out 0 s)

-- The answer to a request, in a lent buffer.
unfoldable pub answered : List ℕ → List ℕ → Outcome
answered request out = fronted (fitting (length out) (answer_to request)) out

-- "Answer: u32 length, bytes."
unfoldable pub frame : List ℕ → List ℕ
frame s = le 4 (length s) ++ s

-- The same with its length before it, where there is room for a length.
unfoldable pub framed : List ℕ → List ℕ → Outcome
framed request out = cond (ltb (length out) 4) (outcome 0 out) (fronted (frame (fitting (length out - 4) (answer_to request))) out)

-- ---- examples

-- No request, no call of this number, and numbers that are cut off: the empty answer.
no_request : answer_to [] ≡ []
unfolding answer_to
no_request = refl

no_such_call : answer_to (9 ∷ 1 ∷ []) ≡ []
unfolding answer_to export_of
no_such_call = refl

cut_off : answer_to (6 ∷ 4 ∷ 0 ∷ 0 ∷ []) ≡ []
unfolding answer_to export_of lent_in
cut_off = refl

-- The largest buffer, and one byte more.
largest : lent_in 0 (0xC0 ∷ 0xFF ∷ 0x0F ∷ 0 ∷ []) ≡ Some most_lent
unfolding lent_in
largest = refl

too_large : lent_in 0 (0xC1 ∷ 0xFF ∷ 0x0F ∷ 0 ∷ []) ≡ None
unfolding lent_in
too_large = refl
