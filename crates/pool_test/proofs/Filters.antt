-- What the filters rest on: paths of different keys are different, so a row whose key none before it has is the first of its path, and a
-- directory the first of its bytes.
use Prim.Native.Nat.{ℕ, ◌+◌, ◌*◌, ◌≤◌, ◌<◌}
use mathlib.Core.Path.{◌≡◌, refl, sym, ap, ◌∙◌}
use mathlib.Core.List.{List}
use mathlib.Core.Bool.{Bool, true, false, ◌&&◌, false≢true}
use native.Mathlib.Omega.{arith}
use lib.Dec.{eqb, leb}
use lib.ListN.{length, get_or, take, drop}
use borrow.Author.Tests.{eq-eqb}
use Rattle.limits.specs.Limits.{max_path, dir_width}
use Rattle.le.specs.Le.{field}
use Rattle.le.proofs.Fields.{field_back}
use Rattle.lists.specs.Same.{same_bytes, same_bytes_refl, same_bytes_other}
use Rattle.lists.specs.Runs.{any_not, any_none}
use Rattle.path.specs.Path.{text_key, key_of}
use Rattle.path.proofs.Theorems.{key_other}
use Rattle.slot_rows.specs.Rows.{Row, at, is_bound, path_of, holds}
use Rattle.slot_rows.proofs.Finding.{holds_unbound, holds_path}
use Rattle.dir_rows.specs.Rows.{dir_at}
use Rattle.pool_test.specs.Test.{is_zero, cut_out, dir_fits, is_at, first_ok}
use Rattle.pool_test.specs.Keys.{Keys, is_dir, has_dir}
use Rattle.std.specs.Prelude.{◌≢◌}
use Rattle.std.specs.List.{list_any}
use Rattle.std.proofs.Common.{Fits, w8}
use Rattle.pool_test.proofs.Turns.{num_told}
use Rattle.pool_test.proofs.Exactly.{first_of}

-- where no key before i is key i, none before it has the key of what stands at i
keys_apart : (g : List ℕ → ℕ) (f : ℕ → List ℕ) (n : ℕ) (ks : List ℕ) (i : ℕ) → Keys g f n ks → i < n → list_any (λ y. eqb y (get_or ks i 0)) (take i ks) ≡ false
    → (j : ℕ) → j < i → g (f j) ≢ g (f i)
unfolding is_at
keys_apart g f n ks i K h e j l u =
    false≢true (sym (any_not (is_at ks (get_or ks i 0)) 0 i j (num_told ks i _ (omega (arith, K.room)) ∙ e) (omega arith) (omega arith))
    ∙ eq-eqb _ _ (K.key j (omega arith) ∙ u ∙ sym (K.key i h)))

-- ---- slot rows

pub first_alone : (rs : List Row) (n : ℕ) (ks : List ℕ) (i : ℕ) → Keys key_of (λ j. path_of (at rs j)) n ks → i < n → list_any (λ y. eqb y (get_or ks i 0)) (take i ks) ≡ false
    → first_ok rs i ≡ true
first_alone rs n ks i K h e = first_of rs i (λ b j l. other j l _ refl)
  where
    other : (j : ℕ) → j < i → (t : Bool) → is_bound (at rs j) ≡ t → holds (path_of (at rs i)) (at rs j) ≡ false
    other j l false u = holds_unbound (path_of (at rs i)) (at rs j) u
    other j l true u = holds_path (path_of (at rs i)) (at rs j) u ∙ key_other (path_of (at rs j)) (path_of (at rs i)) (keys_apart key_of (λ j. path_of (at rs j)) n ks i K h e j l)

-- ---- directories by bytes

-- texts of different keys are different
pub text_other : (d p : List ℕ) → (text_key d ≢ text_key p) → same_bytes d p ≡ false
text_other d p n = same_bytes_other d p (λ u. n (ap text_key u))

pub none_before : (b : List ℕ) (n : ℕ) (ks : List ℕ) (i : ℕ) (p : List ℕ) → Keys text_key (dir_at b) n ks → i < n → p ≡ dir_at b i → list_any (λ y. eqb y (get_or ks i 0)) (take i ks) ≡ false
    → has_dir b i p ≡ false
unfolding is_dir
none_before b n ks i p K h q e =
    any_none (is_dir b p) 0 i
    (λ j a l. same_bytes_other (dir_at b j) p (λ u. keys_apart text_key (dir_at b) n ks i K h e j (omega arith) (ap text_key (u ∙ q))))

-- a row that is p is one of them
pub dir_hit : (b p : List ℕ) (m j : ℕ) → is_dir b p j ≡ true → j < m → has_dir b m p ≡ true
dir_hit b p m j e h = go (has_dir b m p) refl
  where
    go : (t : Bool) → has_dir b m p ≡ t → t ≡ true
    go true u = refl
    go false u = absurd (false≢true (sym (any_not (is_dir b p) 0 m j u (omega arith) (omega arith)) ∙ e))

-- ---- a directory row's form

-- any two bytes are a length
pub dir_told : (b : List ℕ) (j : ℕ) → ((i : ℕ) → Fits w8 (get_or b i 0)) → j * dir_width + dir_width ≤ length b
    → dir_fits b j ≡ (leb (field b (j * dir_width) 2) max_path && is_zero (cut_out b (j * dir_width + 2 + field b (j * dir_width) 2) (j * dir_width + dir_width)))
unfolding dir_fits
dir_told b j bytes room = rw (field_back b (j * dir_width) 2 (λ i. omega (arith, bytes i)) (omega arith), same_bytes_refl (take 2 (drop (j * dir_width) b)))
