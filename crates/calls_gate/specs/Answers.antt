-- The answers of the public calls, and 01's number of each ("Numbers that come back"); 0 is a call that was done.
use Rattle.std.specs.Prelude.{ℕ, ◌≡◌, refl, cond, eqb, Option, None, Some}
use Rattle.std.proofs.Common.{arith, sym, ap, ◌∙◌, eqb-true}
use Rattle.lists.specs.Runs.{all_of, all_at}
use Rattle.pool_state.specs.Numbers.{IsNumber}
use Rattle.calls_gate.specs.declared.Answer.{Answer}
use Rattle.calls_gate.specs.declared.Answer.TheVariants.{Done, NotPool, WrongShape, NotText, TooLong, NotFound, Stale}
use Rattle.calls_gate.specs.declared.Answer.TheVariants.{NoSlot, NoDirRow, NoGeneration, Failed, Short, TooMany, TooSmall}

unfoldable pub number_of : Answer → ℕ
number_of Done = 0
-- "record isn't a pool"
number_of NotPool = 1
-- "device or row buffers of wrong shape"
number_of WrongShape = 2
-- "a path isn't text"
number_of NotText = 3
-- "open_write or rename's `to` above 480 bytes; create_dir_all's normal spelling .. above 480"
number_of TooLong = 4
-- "not found"
number_of NotFound = 5
-- "handle stale, or slot out of range"
number_of Stale = 6
-- "new file and no free slot"
number_of NoSlot = 7
-- "more directories to hold than directory rows"
number_of NoDirRow = 8
-- "counter + generations needed above 2^63"
number_of NoGeneration = 9
-- "a device call failed"
number_of Failed = 10
-- "a write stored too little"
number_of Short = 11
-- "slots held and asked for together exceed slot rows or device"
number_of TooMany = 12
-- "listing buffer too small"
number_of TooSmall = 13

-- The answer of a number.
unfoldable pub answer_of : ℕ → Answer
answer_of n =
    cond (eqb n 0) Done
    (cond (eqb n 1) NotPool
    (cond (eqb n 2) WrongShape
    (cond (eqb n 3) NotText
    (cond (eqb n 4) TooLong
    (cond (eqb n 5) NotFound
    (cond (eqb n 6) Stale
    (cond (eqb n 7) NoSlot
    (cond (eqb n 8) NoDirRow
    (cond (eqb n 9) NoGeneration
    (cond (eqb n 10) Failed
    (cond (eqb n 11) Short
    (cond (eqb n 12) TooMany TooSmall))))))))))))

-- The answer of a refusal by its number: none where the number is 0.
abbrev pub refused_as : ℕ → Option Answer
refused_as n = cond (eqb n 0) None (Some (answer_of n))

pub answer_back : (a : Answer) → answer_of (number_of a) ≡ a
unfolding number_of answer_of
answer_back Done = refl
answer_back NotPool = refl
answer_back WrongShape = refl
answer_back NotText = refl
answer_back TooLong = refl
answer_back NotFound = refl
answer_back Stale = refl
answer_back NoSlot = refl
answer_back NoDirRow = refl
answer_back NoGeneration = refl
answer_back Failed = refl
answer_back Short = refl
answer_back TooMany = refl
answer_back TooSmall = refl

-- No two answers have one number, so a contract on the number decides the answer.
pub number_once : (a b : Answer) → number_of a ≡ number_of b → a ≡ b
number_once a b e = sym (answer_back a) ∙ ap answer_of e ∙ answer_back b

-- And each number of 01's is an answer's.
pub number_back : (n : ℕ) → IsNumber n → number_of (answer_of n) ≡ n
unfolding number_of answer_of all_of
number_back n h = eqb-true _ _ (all_at (λ i. eqb (number_of (answer_of i)) i) 0 14 n refl (omega arith) (omega arith))
