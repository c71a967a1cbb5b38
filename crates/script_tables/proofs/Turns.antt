-- The turns of the loops that write, and how far each goes.
use Rattle.std.proofs.Common.{refl, ◌==◌, ◌∷◌}
use Rattle.std.specs.List.{list_any}
use Prim.Native.Nat.{ℕ, ◌+◌, ◌-◌, ◌*◌, ◌/◌, ◌%◌, ◌<◌, ◌≤◌}
use mathlib.Core.Path.{◌≡◌, sym, ap, ◌∙◌}
use mathlib.Core.Bool.{Bool, true, false}
use mathlib.Core.List.{List, [], ◌++◌, append-nil}
use native.Mathlib.Omega.{arith}
use native.Mathlib.Nat.{add-sub_cancel_left}
use lib.ListN.{length, take, drop, length-append, length-take, drop_of_length-le}
use lib.Seq.{sets, sets-eq}
use Rattle.limits.specs.Limits.{dir_width}
use Rattle.lists.specs.Blocks.{cat}
use Rattle.lists.specs.Runs.{range, range_more, range_end}
use Rattle.le.specs.Le.{le}
use Rattle.le.proofs.Fields.{length_le}
use Rattle.slot_rows.specs.Rows.{Row, at, path_of, gen_of, len_of, rows_of}
use Rattle.slot_rows.proofs.InBuffers.{length_rows}
use Rattle.dir_rows.specs.Rows.{dirs_of}
use Rattle.dir_rows.proofs.InBuffer.{length_dirs, dirs_long}
use Rattle.pool_state.specs.State.{Bufs, queue_of, view, pool_of, flat, IsPool}
use Rattle.pool_state.specs.InBuffers.{queue_fits, pool_dirs}
use Rattle.pool_test.specs.Test.{is_pool}
use Rattle.row_order.specs.Spans.{spelled}
use Rattle.output.specs.Writer.{Shown, pours, run_of}
use Rattle.output.proofs.InParts.{pours_none, pours_append}
use Rattle.script_tables.specs.Tables.{is_in, weight, marks_of, marks_at, row_shown, dirs_shown, pool_shown, record_shown}

-- ---- a byte that is sought

pub in_any : (x : ℕ) (s : List ℕ) → list_any (λ y. y == x) s ≡ is_in x s
unfolding is_in
in_any x [] = refl
in_any x (y ∷ s) = grind (arith, in_any x s)

-- ---- output

-- a part is put out, and what is left makes the whole
pub turn : (xs ys l : List ℕ) (o : Shown) {o' : Shown} → l ≡ xs ++ ys → o' ≡ pours xs o → pours ys o' ≡ pours l o
turn xs ys l o e f = ap (pours ys) f ∙ pours_append xs ys o ∙ ap (λ (t : List ℕ). pours t o) (sym e)

-- nothing is left
pub done : (l : List ℕ) (o : Shown) → l ≡ [] → o ≡ pours l o
done l o e = sym (pours_none o) ∙ ap (λ (t : List ℕ). pours t o) (sym e)

-- rows i to n, one behind the other: row i, and then the rest; and nothing behind the last
module _ (f : ℕ → List ℕ) (n i : ℕ) where
  pub each_more : i < n → cat f (range i (n - i)) ≡ f i ++ cat f (range (i + 1) (n - (i + 1)))
  unfolding cat
  each_more h = ap (cat f) (range_more n i h)

  pub each_end : n ≤ i → cat f (range i (n - i)) ≡ []
  unfolding cat
  each_end h = ap (cat f) (range_end n i h)

pub length_run : (p : List ℕ) → length (run_of p) ≡ 2 + length p
unfolding run_of
length_run p = length-append (le 2 (length p)) p ∙ ap (λ (k : ℕ). k + length p) (length_le 2 (length p))

-- the part x of b, as it is lent
pub part_spelled : (b : List ℕ) (x : ℕ) → take (x / 512 + x % 512 - x / 512) (drop (x / 512) b) ≡ spelled b x
unfolding spelled
part_spelled b x = ap (λ (k : ℕ). take k (drop (x / 512) b)) (add-sub_cancel_left (x / 512) (x % 512))

pub spelled_short : (b : List ℕ) (x : ℕ) → length (spelled b x) < 512
unfolding spelled
spelled_short b x = rw length-take (omega arith)

-- ---- slot rows

pub weight_le : (b : Bool) (x k : ℕ) → k ≡ weight b x → k ≤ x
weight_le true x k e = omega (arith, e)
weight_le false x k e = omega (arith, e)

pub marks_are : (p q r p' q' r' : Bool) (x y z : ℕ) → x ≡ weight p 1 → y ≡ weight q 2 → z ≡ weight r 4 → p ≡ p' → q ≡ q' → r ≡ r' → x + y + z ≡ marks_of p' q' r'
unfolding marks_of
marks_are p q r p' q' r' x y z ex ey ez ep eq er = rw (ex, ey, ez, ep, eq, er)

pub row_is : (queue : List ℕ) (rs : List Row) (i m g n : ℕ) (p : List ℕ) → m ≡ marks_at queue rs i → g ≡ gen_of (at rs i) → n ≡ len_of (at rs i)
    → p ≡ path_of (at rs i) → le 1 m ++ le 8 g ++ le 8 n ++ run_of p ≡ row_shown queue rs i
unfolding row_shown
row_is queue rs i m g n p em eg en ep = rw (em, eg, en, ep)

-- ---- directories

pub sets_whole : (xs l : List ℕ) → length xs ≡ length l → sets l 0 xs ≡ xs
sets_whole xs l e =
    sets-eq xs l 0 (omega arith) ∙ ap (λ (r : List ℕ). xs ++ r) (drop_of_length-le l {i = 0 + length xs} (omega arith)) ∙ append-nil xs

-- ---- a pool

module _ (b : Bufs) (P : IsPool b) where
  pub few_held : b.pool.held ≤ 64
  unfolding view
  few_held = omega (arith, P.valid.counts.few, P.valid.counts.small, length_rows b.nums b.names b.pool.held)

  pub free_is : length (take b.pool.free b.pool.queue) ≡ b.pool.free
  unfolding flat pool_of view queue_of
  free_is = ap (λ (x : Bufs). x.pool.free) P.canon

  pub few_free : b.pool.free ≤ 64
  unfolding view queue_of
  few_free = omega (arith, free_is, queue_fits (view b) P.valid)

  pub few_dirs : b.pool.dirs ≤ 256
  unfolding view
  few_dirs = omega (arith, P.valid.counts.dirs_few, P.valid.counts.dirs_small, length_dirs b.dirs b.pool.dirs)

  pub dirs_fit : b.pool.dirs * dir_width ≤ length b.dirs
  dirs_fit = omega (arith, dirs_long _ _ _ (pool_dirs b P), (pool_dirs b P).few)

  abbrev queue : List ℕ
  queue = take b.pool.free b.pool.queue

  abbrev rows : List Row
  rows = rows_of b.nums b.names b.pool.held

  pub pool_is : le 8 b.pool.counter ++ le 1 b.pool.held ++ cat (row_shown queue rows) (range 0 b.pool.held) ++ le 1 b.pool.free ++ queue ++ dirs_shown (dirs_of b.dirs b.pool.dirs)
      ≡ pool_shown (view b)
  unfolding pool_shown view queue_of
  pool_is = rw (length_rows b.nums b.names b.pool.held, free_is)

pub record_pool : (b : Bufs) (o : Shown) {r : Shown} → is_pool b ≡ true → r ≡ pours (le 1 1 ++ pool_shown (view b)) o → r ≡ pours (record_shown b) o
unfolding record_shown
record_pool b o h e = e ∙ rw h

pub record_none : (b : Bufs) (o : Shown) {r : Shown} → is_pool b ≡ false → r ≡ pours (le 13 0) o → r ≡ pours (record_shown b) o
unfolding record_shown
record_none b o h e = e ∙ rw h
