-- A changed row, and other directories: what the calls make of a state, when it is valid again, and how it lies in the buffers.
use Rattle.std.specs.Prelude.{ℕ, ◌≤◌, ◌<◌, ◌≡◌, refl, ◌≢◌, ◌⊎◌, List, Bool, true, false, set}
use Rattle.std.proofs.Common.{sym, ap, ◌∙◌, subst, inl, inr, arith, get_or-set_same, get_or-set_other}
use Rattle.std.proofs.lemmas.Bool.{false≢true}
use Rattle.std.proofs.Math.Decide.{ℕ_discrete}
use Rattle.std.proofs.Math.ListN.{length, length-set}
use Rattle.limits.specs.Limits.{max_path}
use Rattle.lists.specs.Distinct.{In}
use Rattle.text.specs.Text.{is_text}
use Rattle.text.specs.Text as Text
use Rattle.text.proofs.Grammar.{text_complete}
use Rattle.path.specs.Path.{components}
use Rattle.slot_rows.specs.Rows.{Row, unbound, none, at, is_bound, path_of, gen_of, resized, rows_of, Flat}
use Rattle.slot_rows.proofs.InBuffers.{resized_bound, resized_path, resized_gen}
use Rattle.pool_state.specs.State.{State, Directories, Valid, Bufs, bufs, view, pool_of, flat, IsPool}
use Rattle.pool_state.specs.InBuffers.{pool_canon, pool_dirs, together}

-- Row i becomes r.
unfoldable pub with_row : ℕ → Row → State → State
with_row i r s = record { chosen = s.chosen; rows = set s.rows i r; dirs = s.dirs; queue = s.queue; counter = s.counter }

-- The directories become ds.
unfoldable pub with_dirs : List (List ℕ) → State → State
with_dirs ds s = record { chosen = s.chosen; rows = s.rows; dirs = ds; queue = s.queue; counter = s.counter }

-- r may stand in row i: what 01 asks of a row, and, where it is bound, that the slot is not free and no other row has its path.
pub record Admits (s : State) (i : ℕ) (r : Row) : Type 0 where
  pub text : is_text (path_of r) ≡ true
  pub short : length (path_of r) ≤ max_path
  pub young : gen_of r < s.counter
  pub apart : is_bound r ≡ true → (j : ℕ) → j ≢ i → is_bound (at s.rows j) ≡ true → components (path_of r) ≡ components (path_of (at s.rows j)) → ⊥
  pub idle : is_bound r ≡ true → In i s.queue → ⊥

module _ (s : State) (i : ℕ) (r : Row) (ok : Valid s) (h : i < length s.rows) (a : Admits s i r) where
  abbrev rows_then : List Row
  rows_then = set s.rows i r

  -- row j is the new one, or as it was
  abbrev Which : ℕ → Type 0
  Which j = ((j ≡ i) × (at rows_then j ≡ r)) ⊎ ((j ≢ i) × (at rows_then j ≡ at s.rows j))

  each : (j : ℕ) → Which j
  each j = go (ℕ_discrete j i)
    where
      go : Dec (j ≡ i) → Which j
      go (yes e) = inl (e, ap (at rows_then) e ∙ get_or-set_same s.rows i r none h)
      go (no n) = inr (n, get_or-set_other s.rows i j r none n)

  all_rows : (P : Row → Type 0) → P r → ((j : ℕ) → P (at s.rows j)) → (j : ℕ) → P (at rows_then j)
  all_rows P p f j = go (each j)
    where
      go : Which j → P (at rows_then j)
      go (inl e) = subst P (sym e.1) p
      go (inr e) = subst P (sym e.1) (f j)

  two_rows : (j k : ℕ) → is_bound (at rows_then j) ≡ true → is_bound (at rows_then k) ≡ true
      → components (path_of (at rows_then j)) ≡ components (path_of (at rows_then k)) → j ≡ k
  two_rows j k b c e = go (each j) (each k)
    where
      go : Which j → Which k → j ≡ k
      go (inl x) (inl y) = x.0 ∙ sym y.0
      go (inl x) (inr y) = absurd (a.apart (rw x.1 at b) k y.0 (rw y.1 at c) (rw (x.1, y.1) at e))
      go (inr x) (inl y) = absurd (a.apart (rw y.1 at c) j x.0 (rw x.1 at b) (sym (rw (x.1, y.1) at e)))
      go (inr x) (inr y) = ok.slots.apart j k (rw x.1 at b) (rw y.1 at c) (rw (x.1, y.1) at e)

  queue_idle : (j : ℕ) → In j s.queue → is_bound (at rows_then j) ≡ false
  queue_idle j m = go (each j) (is_bound r) refl
    where
      go : Which j → (t : Bool) → is_bound r ≡ t → is_bound (at rows_then j) ≡ false
      go (inl x) true b = absurd (a.idle b (subst (λ (k : ℕ). In k s.queue) x.0 m))
      go (inl x) false b = rw x.1 b
      go (inr x) t b = rw x.1 (ok.waiting.idle j m)

  -- A row that may stand there keeps a state valid.
  pub with_row_valid : Valid (with_row i r s)
  unfolding with_row
  with_row_valid =
      let n : length rows_then ≡ length s.rows = length-set s.rows i r in
      record {
        counts = rw n ok.counts;
        slots =
            record {
              text = all_rows (λ x. is_text (path_of x) ≡ true) a.text ok.slots.text;
              short = all_rows (λ x. length (path_of x) ≤ max_path) a.short ok.slots.short;
              apart = two_rows;
              young = all_rows (λ x. gen_of x < s.counter) a.young ok.slots.young;
            };
        waiting = record { inside = λ j m. omega (arith, ok.waiting.inside j m); idle = queue_idle; once = ok.waiting.once };
        directories = ok.directories;
      }

-- An unbound row may stand anywhere,
pub unbound_admitted : (s : State) (i g : ℕ) → g < s.counter → Admits s i (unbound g)
unfolding path_of gen_of is_bound
unbound_admitted s i g h =
    record { text = text_complete Text.none; short = omega arith; young = h; apart = λ b. absurd (false≢true b); idle = λ b. absurd (false≢true b) }

-- and a row with another length and dirty bit in its place.
pub resized_admitted : (s : State) (i n : ℕ) (d : Bool) → Valid s → Admits s i (resized n d (at s.rows i))
resized_admitted s i n d ok =
    let r = at s.rows i in
    let b = resized_bound n d r in
    let p = resized_path n d r in
    record {
      text = rw p (ok.slots.text i);
      short = rw p (ok.slots.short i);
      young = rw (resized_gen n d r) (ok.slots.young i);
      apart = λ t j ne u e. ne (sym (ok.slots.apart i j (sym b ∙ t) u (ap components (sym p) ∙ e)));
      idle = λ t m. false≢true (sym (ok.waiting.idle i m) ∙ sym b ∙ t);
    }

-- Directories such as 01 asks for, as many as there are rows for, keep it valid, too.
pub with_dirs_valid : (s : State) (ds : List (List ℕ)) → Valid s → length ds ≤ s.chosen.dir_rows → Directories ds → Valid (with_dirs ds s)
unfolding with_dirs
with_dirs_valid s ds ok h D =
    let n = ok.counts in
    record {
      counts = record { small = n.small; dirs_small = n.dirs_small; few = n.few; dirs_few = h; begun = n.begun; counted = n.counted };
      slots = ok.slots;
      waiting = ok.waiting;
      directories = D;
    }

-- A row stored in a pool's buffers.
pub row_flat : (b : Bufs) → IsPool b → (i : ℕ) (r : Row) (l n : List ℕ)
    → rows_of l n b.pool.held ≡ set (rows_of b.nums b.names b.pool.held) i r → Flat b.pool.chosen.rows b.pool.held l n
    → bufs b.pool l n b.dirs ≡ flat (with_row i r (view b))
unfolding with_row view pool_of
row_flat b P i r l n e F =
    let rs = rows_of b.nums b.names b.pool.held in
    let k : length rs ≡ length (set rs i r) = sym (length-set rs i r) in
    let q : b.pool ≡ pool_of (with_row i r (view b)) = sym (pool_canon b P) ∙ rw k in
    together (with_row i r (view b)) b.pool l n b.dirs q e F refl (pool_dirs b P)
