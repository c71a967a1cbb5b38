-- No answer is longer than the room that is kept for it, 8,192 bytes: the longest are dumps, and one of four files and eight directories
-- has at most 6,158 bytes.
use Rattle.std.specs.Prelude.{ℕ, ◌+◌, ◌-◌, ◌*◌, ◌≤◌, ◌≡◌, refl, Bool, true, false, cond, List, [], ◌∷◌, eqb, length}
use Rattle.std.proofs.Common.{arith, length-append}
use mathlib.Core.List.Memᴰ
use Rattle.limits.specs.Limits.{max_path}
use Rattle.lists.specs.Runs.{range, length_range}
use Rattle.lists.specs.Blocks.{cat}
use Rattle.lists.specs.Distinct.{In}
use Rattle.lists.specs.Sort.{keep, length_sort}
use Rattle.slot_rows.specs.Rows.{Row, Short, at, is_bound, path_of, gen_of, len_of, is_dirty}
use Rattle.slot_rows.proofs.InBuffers.{length_rows}
use Rattle.dir_rows.proofs.InBuffer.{length_dirs}
use Rattle.pool_state.specs.State.{State, Valid, Bufs, view, IsPool}
use Rattle.pool_state.specs.Reads.{pool_reads}
use Rattle.pool_test.specs.Test.{is_pool}
use Rattle.pool_test.proofs.Exactly.{pool_exactly}
use Rattle.pool_steps.specs.World.{Lent}
use Rattle.calls_gate.specs.declared.Call.{Call}
use Rattle.calls_gate.specs.declared.Call.TheVariants.{OpenWrite, OpenRead, Sync, Rename, RemoveFile}
use Rattle.calls_gate.specs.Replies.{Came}
use Rattle.calls_gate.specs.Table.{opening}
use Rattle.row_order.specs.Spans.{file_before, path_before, in_order}
use Rattle.line_words.specs.Commands.{Request, create, sync, remove, move, dump, what, request_of}
use Rattle.line_answers.specs.Answers.{no_text, ok_text, made_text, end_text, open_text}
use Rattle.line_answers.proofs.Digits.{spaced_few}
use Rattle.line_dump.specs.Dump.{path_end, bit_of, file_numbers, file_line, dir_line, free_line, files_of}
use Rattle.line_dump.specs.Dump.{files_text, dirs_text, dump_text, dump_answer}
use Rattle.line.specs.Lines.{Response, response, on_card, number_t, create_t, sync_t, request_t, line_t}
use Rattle.slots.specs.Slots.{Waits}

-- The room that is kept for an answer.
abbrev pub answer_room : ℕ
answer_room = 8192

-- The rows that the program lends: four slot rows and eight directory rows.
pub record FourAndEight (b : Bufs) : Type 0 where
  pub nums : length b.nums ≡ 16
  pub dirs : length b.dirs ≡ 3856

-- ---- short answers

no_short : (n : ℕ) → length (no_text n) ≤ 24
unfolding no_text
no_short n = simp length-append (omega (arith, spaced_few n))

made_short : (slot generation len : ℕ) → length (made_text slot generation len) ≤ 66
unfolding made_text
made_short slot generation len = simp length-append (omega (arith, spaced_few slot, spaced_few generation, spaced_few len))

-- both ways are short, so the one that is taken is
either : (k : ℕ) (t : Bool) (x y : List ℕ) → length x ≤ k → length y ≤ k → length (cond t x y) ≤ k
either k true x y p q = p
either k false x y p q = q

end_short : (number : ℕ) → length (end_text number) ≤ 66
unfolding end_text
end_short number = either 66 (eqb number 0) ok_text (no_text number) (omega arith) (omega (arith, no_short number))

open_short : (number slot generation len : ℕ) → length (open_text number slot generation len) ≤ 66
unfolding open_text
open_short number slot generation len =
    either 66 (eqb number 0) (made_text slot generation len) (no_text number) (made_short slot generation len)
    (omega (arith, no_short number))

-- ---- a dump

path_short : (p : List ℕ) → length p ≤ max_path → length (path_end p) ≤ 482
unfolding path_end
path_short p h = simp length-append (omega arith)

file_short : (rs : List Row) → Short rs → (i : ℕ) → length (file_line rs i) ≤ 567
unfolding file_line file_numbers
file_short rs s i =
    let r = at rs i in
    simp length-append
    (omega (arith, spaced_few i, spaced_few (gen_of r), spaced_few (len_of r), spaced_few (bit_of (is_dirty r)), path_short (path_of r) (s i)))

-- the lines of those that are kept
kept_short : (f : ℕ → List ℕ) (w : ℕ) → ((i : ℕ) → length (f i) ≤ w) → (p : ℕ → Bool) (l : List ℕ)
    → length (cat f (keep p l)) ≤ length l * w
unfolding cat keep
kept_short f w h p [] = omega arith
kept_short f w h p (x ∷ l) = go (p x) (kept_short f w h p l)
  where
    go : (t : Bool) → length (cat f (keep p l)) ≤ length l * w → length (cat f (cond t (x ∷ keep p l) (keep p l))) ≤ length (x ∷ l) * w
    go true ih = simp length-append (omega (arith, h x))
    go false ih = omega arith

-- the lines of all
all_short : (f : List ℕ → List ℕ) (w : ℕ) (l : List (List ℕ)) → ((x : List ℕ) → In x l → length (f x) ≤ w) → length (cat f l) ≤ length l * w
unfolding cat
all_short f w [] h = omega arith
all_short f w (x ∷ l) h =
    simp length-append (omega (arith, h x (Memᴰ.head refl), all_short f w l (λ y m. h y (Memᴰ.tail m))))

files_short : (rs : List Row) → Short rs → length (files_text rs) ≤ length rs * 567
unfolding files_text files_of
files_short rs s =
    let slots : List ℕ = keep (λ (i : ℕ). is_bound (at rs i)) (range 0 (length rs)) in
    omega (
      arith,
      length_sort (file_before rs) (file_line rs) slots,
      kept_short (file_line rs) 567 (file_short rs s) (λ (i : ℕ). is_bound (at rs i)) (range 0 (length rs)),
      length_range 0 (length rs),
    )

dirs_short : (ds : List (List ℕ)) → ((d : List ℕ) → In d ds → length d ≤ max_path) → length (dirs_text ds) ≤ length ds * 483
unfolding dirs_text in_order dir_line
dirs_short ds s =
    omega (arith, length_sort path_before dir_line ds, all_short dir_line 483 ds (λ d m. omega (arith, path_short d (s d m))))

free_short : (n : ℕ) → length (free_line n) ≤ 26
unfolding free_line
free_short n = simp length-append (omega (arith, spaced_few n))

-- A dump, by the rows that are held.
pub dump_short : (s : State) → Valid s → length (dump_text s) ≤ length s.rows * 567 + length s.dirs * 483 + 26
unfolding dump_text
dump_short s ok =
    simp length-append
    (omega (arith, files_short s.rows ok.slots.short, dirs_short s.dirs ok.directories.short, free_short (length s.queue)))

full_short : (b : Bufs) → FourAndEight b → IsPool b → length (dump_text (view b)) ≤ 6158
unfolding view
full_short b k p =
    let r = pool_reads b p in
    let rows : length (view b).rows ≡ b.pool.held = length_rows b.nums b.names b.pool.held in
    let dirs : length (view b).dirs ≡ b.pool.dirs = length_dirs b.dirs b.pool.dirs in
    omega (arith, dump_short (view b) p.valid, rows, dirs, r.held, r.dirs, r.nums_long, r.dirs_long, k.nums, k.dirs)

-- Of four slot rows and eight directory rows it is this long at most.
pub four_and_eight : (b : Bufs) → FourAndEight b → length (dump_answer b) ≤ 6158
unfolding dump_answer
four_and_eight b k = go (is_pool b) refl
  where
    go : (t : Bool) → is_pool b ≡ t → length (cond t (dump_text (view b)) (no_text 1)) ≤ 6158
    go true e = full_short b k ((pool_exactly b).0 e)
    go false e = omega (arith, no_short 1)

-- ---- any line

number_short : (c : Call) (one two : List ℕ) (l : Lent) → length (number_t c one two l).text ≤ 66
unfolding number_t
number_short c one two l = end_short (on_card c one two l).number

create_short : (path : List ℕ) (l : Lent) → length (create_t path l).text ≤ 66
unfolding create_t
create_short path l =
    let x = on_card (OpenWrite (opening false)) path [] l in
    open_short x.number x.told.slot x.told.generation x.told.len

sync_short : (path : List ℕ) (l : Lent) → length (sync_t path l).text ≤ 66
unfolding sync_t
sync_short path l = go (eqb x.number 0)
  where
    x : Came
    x = on_card OpenRead path [] l

    synced : Response
    synced = number_t (Sync x.told.slot x.told.generation) [] [] x.left

    go : (t : Bool) → length (cond t synced (response (no_text x.number) x.left)).text ≤ 66
    go true = number_short (Sync x.told.slot x.told.generation) [] [] x.left
    go false = omega (arith, no_short x.number)

-- Whatever line comes, and whatever the rows and the record hold.
pub answers_fit : (line : List ℕ) (l : Lent) → FourAndEight l.bufs → length (line_t line l).text ≤ answer_room
unfolding line_t request_t
answers_fit line l k = go (request_of line)
  where
    go : (q : Request) → length (request_t q l).text ≤ answer_room
    go (create p) = omega (arith, create_short p l)
    go (sync p) = omega (arith, sync_short p l)
    go (remove p) = omega (arith, number_short RemoveFile p [] l)
    go (move a b) = omega (arith, number_short Rename a b l)
    go dump = omega (arith, four_and_eight l.bufs k)
    go what = omega arith

-- ---- what the code promises of it

-- A place has room for an answer behind it, where a buffer of this length has any.
abbrev pub RoomAt : ℕ → ℕ → Type 0
RoomAt long start = answer_room ≤ long → answer_room ≤ long - start

-- The answer to a line waits whole in the buffer of the answers, which was this long: with these rows, and room for an answer.
abbrev pub AnswerWaits : List ℕ → Lent → ℕ → List ℕ → ℕ → Type 0
AnswerWaits line l long out used = FourAndEight l.bufs → answer_room ≤ long → Waits (line_t line l).text out used
