-- The ways of a dump, over plain values: what each writer puts out, and how long it is.
use Prim.Native.Nat.{ℕ, zero, suc, ◌+◌, ◌-◌, ◌*◌, ◌/◌, ◌%◌, ◌≤◌, ◌<◌}
use native.Mathlib.Omega.{arith}
use mathlib.Core.Path.{◌≡◌, ap, ◌∙◌}
use mathlib.Core.Bool.{Bool, true, false}
use mathlib.Core.List.{List, [], ◌∷◌, ◌++◌}
use lib.ListN.{length, get_or, take, drop, length-append, length-take}
use Rattle.limits.specs.Limits.{dir_width}
use Rattle.lists.specs.Blocks.{cat}
use Rattle.lists.specs.Sort.{sort}
use Rattle.slot_rows.specs.Rows.{Row, at, path_of, gen_of, len_of, is_dirty, rows_of, Flat, Short}
use Rattle.dir_rows.specs.Rows.{dirs_of}
use Rattle.row_order.specs.Spans.{spelled, AllInside, span_before, slot_of, file_spans, dir_spans}
use Rattle.row_order.specs.AllDirs as all
use Rattle.pool_state.specs.declared.Pool.{Pool}
use Rattle.pool_state.specs.State.{Bufs, view, queue_of, pool_of, IsPool}
use Rattle.pool_state.specs.InBuffers.{pool_canon}
use Rattle.pool_state.specs.Reads.{pool_reads}
use Rattle.pool_test.specs.Test.{is_pool}
use Rattle.output.specs.Writer.{Shown, shown, pours, poured}
use Rattle.output.proofs.InParts.{pours_byte, pours_then}
use Rattle.line_answers.specs.Answers.{spaced, no_text}
use Rattle.line_answers.proofs.Digits.{spaced_few, whole}
use Rattle.line_dump.specs.Dump.{path_end, bit_of, file_numbers, file_line, dir_line, free_line, files_text, dirs_text, dump_text, dump_answer, SlotsBelow}
use Rattle.line_dump.proofs.Spans.{files_held, files_count, files_text_lem, dirs_text_lem}

-- ---- a line

pub path_put : (p : List ℕ) (o : Shown) {o₁ o₂ o₃ : Shown} → o₁ ≡ pours (32 ∷ []) o → o₂ ≡ pours p o₁ → o₃ ≡ pours (10 ∷ []) o₂ → o₃ ≡ pours (path_end p) o
unfolding path_end
path_put p o e f g = pours_then p (10 ∷ []) _ f g ∙ pours_byte 32 (p ++ (10 ∷ [])) o e

path_long : (p : List ℕ) → length (path_end p) ≡ length p + 2
unfolding path_end
path_long p = omega (arith, length-append p (10 ∷ []))

pub numbers_put : (i g n d : ℕ) (o : Shown) {o₁ o₂ o₃ o₄ o₅ : Shown} → o₁ ≡ pours (102 ∷ []) o → o₂ ≡ pours (spaced i) o₁ → o₃ ≡ pours (spaced g) o₂
    → o₄ ≡ pours (spaced n) o₃ → o₅ ≡ pours (spaced d) o₄ → o₅ ≡ pours (file_numbers i g n d) o
unfolding file_numbers
numbers_put i g n d o a b c e f = pours_then _ _ _ a (pours_then _ _ _ b (pours_then _ _ _ c (pours_then _ _ _ e f)))

pub numbers_few : (i g n d : ℕ) → length (file_numbers i g n d) ≤ 85
unfolding file_numbers
numbers_few i g n d = simp length-append (omega (arith, spaced_few i, spaced_few g, spaced_few n, spaced_few d))

pub file_put : (rs : List Row) (i g n d : ℕ) (p : List ℕ) (o : Shown) {o₁ o₂ : Shown} (t : Bool)
    → g ≡ gen_of (at rs i) → n ≡ len_of (at rs i) → d ≡ bit_of t → t ≡ is_dirty (at rs i) → p ≡ path_of (at rs i)
    → o₁ ≡ pours (file_numbers i g n d) o → o₂ ≡ pours (path_end p) o₁ → o₂ ≡ pours (file_line rs i) o
unfolding file_line
file_put rs i g n d p o t eg en ed et ep a b = rw (← eg, ← en, ← et, ← ed, ← ep) (pours_then _ _ _ a b)

pub file_few : (rs : List Row) → Short rs → (i : ℕ) → length (file_line rs i) ≤ 600
unfolding file_line
file_few rs S i =
    let r = at rs i in
    simp length-append (omega (arith, numbers_few i (gen_of r) (len_of r) (bit_of (is_dirty r)), path_long (path_of r), S i))

pub dir_put : (b : List ℕ) (x : ℕ) (o : Shown) {o₁ o₂ : Shown} → o₁ ≡ pours (100 ∷ []) o
    → o₂ ≡ pours (path_end (take (x / 512 + x % 512 - x / 512) (drop (x / 512) b))) o₁ → o₂ ≡ pours (dir_line (spelled b x)) o
unfolding dir_line spelled
dir_put b x o {o₁} e f =
    let z : x / 512 + x % 512 - x / 512 ≡ x % 512 = omega arith in
    f ∙ ap (λ (k : ℕ). pours (path_end (take k (drop (x / 512) b))) o₁) z ∙ pours_byte 100 _ o e

pub dir_few : (b : List ℕ) (x : ℕ) → length (dir_line (spelled b x)) ≤ 600
unfolding dir_line spelled
dir_few b x = omega (arith, path_long (take (x % 512) (drop (x / 512) b)), length-take (x % 512) (drop (x / 512) b))

-- ---- lines one behind the other

pub cat_few : (f : ℕ → List ℕ) → ((x : ℕ) → length (f x) ≤ 600) → (xs : List ℕ) → length (cat f xs) ≤ length xs * 600
unfolding cat
cat_few f h [] = omega arith
cat_few f h (x ∷ xs) = rw length-append (omega (arith, h x, cat_few f h xs))

pub held_get : (n : ℕ) (xs : List ℕ) (k : ℕ) → SlotsBelow n xs → k < length xs → slot_of (get_or xs k 0) < n
unfolding SlotsBelow
held_get n [] k a h = absurd (omega arith)
held_get n (x ∷ xs) zero a h = a.0
held_get n (x ∷ xs) (suc k) a h = held_get n xs k a.1 (omega arith)

-- ---- all files, all directories

module _ (cap n : ℕ) (l s : List ℕ) (F : Flat cap n l s) {xs : List ℕ} (e : xs ≡ sort (span_before s) (file_spans (rows_of l s n))) where
  pub sorted_held : SlotsBelow n xs
  sorted_held = rw e (files_held cap n l s F)

  pub sorted_few : length xs ≤ n
  sorted_few = rw e (files_count cap n l s F)

  pub files_put : (o : Shown) {o' : Shown} → o' ≡ pours (cat (λ x. file_line (rows_of l s n) (slot_of x)) xs) o → o' ≡ pours (files_text (rows_of l s n)) o
  files_put o f = f ∙ ap (λ (t : List ℕ). pours t o) (ap (cat (λ x. file_line (rows_of l s n) (slot_of x))) e ∙ files_text_lem cap n l s F)

pub files_long : (cap n : ℕ) (l s : List ℕ) → Flat cap n l s → n ≤ 64 → length (files_text (rows_of l s n)) ≤ 38400
files_long cap n l s F h =
    let f : ℕ → List ℕ = λ x. file_line (rows_of l s n) (slot_of x) in
    omega (arith, ap length (files_text_lem cap n l s F), cat_few f (λ x. file_few (rows_of l s n) F.short (slot_of x)) (sort (span_before s) (file_spans (rows_of l s n))), files_count cap n l s F)

module _ (m : ℕ) (b : List ℕ) (h : m * dir_width ≤ length b) {xs : List ℕ} (e : xs ≡ sort (span_before b) (dir_spans (dirs_of b m))) where
  pub sorted_inside : AllInside b xs
  sorted_inside = rw e (all.sorted_inside b m h)

  pub sorted_count : length xs ≡ m
  sorted_count = rw e (all.sorted_many b m h)

  pub dirs_put : (o : Shown) {o' : Shown} → o' ≡ pours (cat (λ x. dir_line (spelled b x)) xs) o → o' ≡ pours (dirs_text (dirs_of b m)) o
  dirs_put o f = f ∙ ap (λ (t : List ℕ). pours t o) (ap (cat (λ x. dir_line (spelled b x))) e ∙ dirs_text_lem m b h)

pub dirs_long : (m : ℕ) (b : List ℕ) → m * dir_width ≤ length b → m ≤ 256 → length (dirs_text (dirs_of b m)) ≤ 153600
dirs_long m b h k =
    omega (arith, ap length (dirs_text_lem m b h), cat_few (λ x. dir_line (spelled b x)) (dir_few b) (sort (span_before b) (dir_spans (dirs_of b m))), all.sorted_many b m h)

-- ---- the whole

module _ (b : Bufs) (P : IsPool b) where
  -- how many rows and directories there can be
  pub pool_few : (b.pool.held ≤ 64) × (b.pool.dirs ≤ 256) × (b.pool.dirs * dir_width ≤ length b.dirs)
  pool_few = let R = pool_reads b P in (omega (arith, R.held, R.rows), omega (arith, R.dirs, R.dir_rows_lem), omega (arith, R.dirs, R.dirs_long))

  queue_free : length (queue_of b.pool) ≡ b.pool.free
  unfolding pool_of view
  queue_free = ap (λ (q : Pool). q.free) (pool_canon b P)

  pub pool_put : (out : List ℕ) {o₁ o₂ o₃ o₄ o₅ : Shown} → o₁ ≡ pours (files_text (rows_of b.nums b.names b.pool.held)) (shown out 0)
      → o₂ ≡ pours (dirs_text (dirs_of b.dirs b.pool.dirs)) o₁
      → o₃ ≡ pours (102 ∷ 114 ∷ 101 ∷ 101 ∷ []) o₂ → o₄ ≡ pours (spaced b.pool.free) o₃ → o₅ ≡ pours (10 ∷ []) o₄ → o₅ ≡ poured (dump_text (view b)) out
  unfolding dump_text free_line view
  pool_put out e f g h i = rw queue_free (whole _ out (pours_then _ _ _ e (pours_then _ _ _ f (pours_then _ _ _ g (pours_then _ _ _ h i)))))

module _ (b : Bufs) (out : List ℕ) {o : Shown} where
  pub dump_no : is_pool b ≡ false → o ≡ poured (no_text 1) out → o ≡ poured (dump_answer b) out
  unfolding dump_answer
  dump_no e f = rw e f

  pub dump_yes : is_pool b ≡ true → o ≡ poured (dump_text (view b)) out → o ≡ poured (dump_answer b) out
  unfolding dump_answer
  dump_yes e f = rw e f
