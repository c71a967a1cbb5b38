-- The ways out of the exported calls that their definitions, opened, do not show, and the count of searches.
use Prim.Native.Nat.{ℕ, ◌+◌, ◌<◌, ◌≤◌}
use mathlib.Core.Path.{◌≡◌, refl, sym, ap, ◌∙◌}
use mathlib.Core.Bool.{Bool, true, false, cond, not}
use mathlib.Core.List.{List, ◌++◌}
use borrow.Author.Tests.{le-ltb, eq-eqb, ne_eqb}
use lib.ListN.{length, take, drop}
use Rattle.le.specs.Le.{laid}
use Rattle.le.proofs.Parts.{laid_front}
use Rattle.text.specs.Text.{is_text}
use Rattle.path.specs.Path.{normal, parent_of}
use Rattle.path.specs.Walk.{UpTo}
use Rattle.header.specs.Block.{block_len, max_path, header_of, encoded}
use Rattle.header.proofs.BlockLaws.{short_absent}
use Rattle.harness.specs.Calls.{outcome, encode_call, said_of, decode_call, spelled, parent_call, hits}
use Rattle.slot_rows.specs.Rows.{find, rows_of}
use Rattle.pool_state.specs.State.{State, Bufs, view}
use Rattle.std.proofs.Common.{arith}
use Rattle.inner_open.specs.Files.{ReaderTold, open_read_m}
use Rattle.inner_open.proofs.Ways.{open_read_found, open_read_none}
use lib.Dec.{eqb}

-- what a test said of a flag, of what the flag stands for
pub told : {t u v : Bool} → t ≡ u → t ≡ v → not u ≡ not v
told e f = ap not (sym e ∙ f)

-- ---- copies

-- a copy to the front lays what is copied over it
pub copied : (s d o : List ℕ) (n : ℕ) → length s ≡ n → o ≡ s ++ drop n d → o ≡ laid d 0 s
copied s d o n e f = f ∙ ap (λ (k : ℕ). s ++ drop k d) (sym e) ∙ sym (laid_front d s)

-- ---- header_encode

pub encode_done : (u l g : ℕ) (path out : List ℕ) {o : List ℕ} → not (is_text path) ≡ false → length path ≤ max_path → block_len ≤ length out
    → o ≡ laid out 0 (encoded (header_of (not (eqb u 0)) (length path) l g) path) → outcome 0 o ≡ encode_call u l g path out
unfolding encode_call
encode_done u l g path out t p h e =
    ap (outcome 0) e ∙ rw (t, le-ltb max_path (length path) p, le-ltb (length out) block_len h)

-- ---- header_decode

pub decode_short : (block out : List ℕ) → 32 ≤ length out → length block < block_len → outcome 1 out ≡ decode_call block out
unfolding decode_call
decode_short block out h s =
    sym (ap (said_of out) (short_absent (take block_len block) (length block) s)) ∙ rw (le-ltb (length out) 32 h)

-- ---- path_parent

-- the front that ends at e spells the parent
pub parent_text : (path out : List ℕ) → not (is_text path) ≡ false → (e : ℕ) → UpTo path e → spelled (normal (take e path)) out ≡ parent_call path out
unfolding parent_call normal parent_of
parent_text path out t e u = rw (t, u.has, u.names)

-- ---- the record

-- what one search comes to, all come to
module _ (path : List ℕ) (s : State) (k : ℕ) where
  pub hits_all : (open_read_m path s).out ≡ 0 → hits path s k ≡ k
  unfolding hits
  hits_all e = rw (eq-eqb _ _ e)

  pub hits_fail : {n : ℕ} → (open_read_m path s).out ≡ n → (n ≡ 0 → ⊥) → hits path s k ≡ hits path s (k + 1)
  unfolding hits
  hits_fail {n} e f = rw (e, ne_eqb n 0 f)

-- what the search of a row tells of the search of a path
module _ (b : Bufs) (path : List ℕ) (i : ℕ) (e : i ≡ find path (rows_of b.nums b.names b.pool.held)) (k : ℕ) where
  pub found_by : i < b.pool.held → hits path (view b) (k + 1) ≡ k + 1
  found_by h = hits_all path (view b) (k + 1) (sym (ap (λ (x : ReaderTold). x.out) (open_read_found b path i e _ h refl)))

  pub lost_by : b.pool.held ≤ i → hits path (view b) k ≡ hits path (view b) (k + 1)
  lost_by h = hits_fail path (view b) k (sym (ap (λ (x : ReaderTold). x.out) (open_read_none b path i e h))) (λ f. absurd (omega (arith, f)))

-- before the first search none has found it
pub hits_start : (path : List ℕ) (s : State) → hits path s 0 ≡ 0
unfolding hits
hits_start path s = go (eqb (open_read_m path s).out 0)
  where
    go : (t : Bool) → ◌≡◌ {A = ℕ} (cond t 0 0) 0
    go true = refl
    go false = refl
