-- Each claim binds one more row or makes one loser (`survey_balance`), and the counter rises to what the highest header asks
-- (`survey_counter`). So mounting in two parts finds as many losers as mounting at once, and asks for no higher counter.
use Prim.Native.Nat.{ℕ, zero, suc, ◌+◌, ◌≤◌, ◌<◌, max}
use native.Mathlib.Omega.{arith}
use native.Mathlib.Nat.{add-suc, add-zero, add_assoc}
use mathlib.Core.Path.{◌≡◌, refl, ap, ◌∙◌}
use mathlib.Core.Logic.{◌↔◌}
use mathlib.Core.Bool.{Bool, true, false}
use mathlib.Core.List.Memᴰ
use mathlib.Core.List.{List, [], ◌∷◌, ◌++◌}
use lib.ListN.{length, set, length-append}
use Rattle.promises_model.specs.Model.{Claim, Head, absent, idle, claim, Row, unbound, bound, Kit}
use Rattle.promises_model.specs.Model as M
use Rattle.promises_model.proofs.Loops.{unbound≢bound}
use Rattle.promises_model.proofs.Rows.{length_snoc}
use Rattle.promises_model.proofs.Moves.{Unheld}
use Rattle.promises_model.proofs.Pool.{Fit, Pool, release_fit, survey_fit}
use Rattle.promises_model.proofs.Dirs.{scan_length}

-- the number of bound rows
module _ {A : Type 0} where
  abbrev tick : Row A → ℕ
  tick (unbound g) = 0
  tick (bound c) = 1

  unfoldable pub count : List (Row A) → ℕ
  count [] = 0
  count (r ∷ rs) = tick r + count rs

  count_snoc : (rs : List (Row A)) (r : Row A) → count (rs ++ (r ∷ [])) ≡ count rs + tick r
  unfolding count
  count_snoc [] r = omega arith
  count_snoc (a ∷ rs) r = omega (arith, count_snoc rs r)

module _ (K : Kit) where
  open K use {Path, Device, head}

  abbrev at : List (Row Path) → ℕ → Row Path
  at = M.row_at K

  -- a holder that is unbound is one fewer; a row that holds nothing may be overwritten
  count_oust : (rs : List (Row Path)) (j : ℕ) (d : Claim Path) (g : ℕ) → at rs j ≡ bound d → suc (count (set rs j (unbound g))) ≡ count rs
  unfolding count
  count_oust [] j d g h = absurd (unbound≢bound h)
  count_oust (r ∷ rs) zero d g h = rw h (omega arith)
  count_oust (r ∷ rs) (suc j) d g h = omega (arith, count_oust rs j d g h)

  count_free : (rs : List (Row Path)) (j g : ℕ) → Unheld K rs j → count (set rs j (unbound g)) ≡ count rs
  unfolding count
  count_free [] j g u = refl
  count_free (unbound f ∷ rs) zero g u = refl
  count_free (bound c ∷ rs) zero g u = absurd (u c refl)
  count_free (r ∷ rs) (suc j) g u = ap (λ x. tick r + x) (count_free rs j g u)

  pub count_agree : (rs ts : List (Row Path)) → length rs ≡ length ts → ((i : ℕ) (c : Claim Path) → at rs i ≡ bound c ↔ at ts i ≡ bound c) → count rs ≡ count ts
  unfolding count
  count_agree [] [] e f = refl
  count_agree [] (t ∷ ts) e f = absurd (omega arith)
  count_agree (r ∷ rs) [] e f = absurd (omega arith)
  count_agree (r ∷ rs) (t ∷ ts) e f = rw (first r t (f 0)) (ap (λ x. tick t + x) (count_agree rs ts (omega arith) (λ i. f (suc i))))
    where
      first : (r t : Row Path) → ((c : Claim Path) → r ≡ bound c ↔ t ≡ bound c) → tick r ≡ tick t
      first (unbound g) (unbound h) f = refl
      first (unbound g) (bound c) f = absurd (unbound≢bound ((f c).1 refl))
      first (bound c) (unbound g) f = absurd (unbound≢bound ((f c).0 refl))
      first (bound c) (bound d) f = refl

  -- whether a header claims
  claims : Head Path → ℕ
  claims absent = 0
  claims (idle g) = 0
  claims (claim c) = 1

  step_balance : (s : M.State K) (h : Head Path) → count (M.step K s h).rows + length (M.step K s h).losers ≡ count s.rows + length s.losers + claims h
  unfolding M.step claims
  step_balance s absent = omega (arith, count_snoc s.rows (unbound 0))
  step_balance s (idle g) = omega (arith, count_snoc s.rows (unbound 0))
  step_balance s (claim c) = meet (at s.rows j) refl
    where
      j : ℕ
      j = M.find K c.path s.rows

      rival : (d : Claim Path) → at s.rows j ≡ bound d → (b : Bool) → count (M.rival K s c j b).rows + length (M.rival K s c j b).losers ≡ count s.rows + length s.losers + 1
      rival d k true = omega (arith, count_snoc s.rows (unbound 0), length_snoc s.losers (length s.rows))
      rival d k false = omega (arith, count_snoc (set s.rows j (unbound 0)) (bound c), length_snoc s.losers j, count_oust s.rows j d 0 k)

      meet : (r : Row Path) → at s.rows j ≡ r → count (M.meet K s c j r).rows + length (M.meet K s c j r).losers ≡ count s.rows + length s.losers + 1
      meet (unbound g) k = omega (arith, count_snoc s.rows (bound c), length-append s.losers [])
      meet (bound d) k = rival d k (M.stands K d c)

  pub step_counter : (s : M.State K) (h : Head Path) → (M.step K s h).counter ≡ max s.counter (M.wants K h)
  unfolding M.step
  step_counter s absent = refl
  step_counter s (idle g) = refl
  step_counter s (claim c) = meet (at s.rows j)
    where
      j : ℕ
      j = M.find K c.path s.rows

      rival : (b : Bool) → (M.rival K s c j b).counter ≡ max s.counter (suc c.gen)
      rival true = refl
      rival false = refl

      meet : (r : Row Path) → (M.meet K s c j r).counter ≡ max s.counter (suc c.gen)
      meet (unbound g) = refl
      meet (bound d) = rival (M.stands K d c)

  -- the claims among n headers from slot a, and what the highest of them asks
  module _ (H : ℕ → Head Path) (a : ℕ) where
    pub claims_of : ℕ → ℕ
    claims_of zero = 0
    claims_of (suc n) = claims_of n + claims (H (a + n))

    pub highest : ℕ → ℕ
    highest zero = 0
    highest (suc n) = max (highest n) (M.wants K (H (a + n)))

    pub claims_le : (n : ℕ) → claims_of n ≤ n
    unfolding claims_of claims
    claims_le zero = omega arith
    claims_le (suc n) = omega (arith, claims_le n, AtMost (H (a + n)))
      where
        AtMost : (h : Head Path) → claims h ≤ 1
        AtMost absent = omega arith
        AtMost (idle g) = omega arith
        AtMost (claim c) = omega arith

    pub highest_le : (B n : ℕ) → ((i : ℕ) → a ≤ i → i < a + n → M.wants K (H i) ≤ B) → highest n ≤ B
    unfolding highest
    highest_le B zero f = omega arith
    highest_le B (suc n) f = omega (arith, highest_le B n (λ i k l. f i k (omega arith)), f (a + n) (omega arith) (omega arith))

  pub claims_heads : (H J : ℕ → Head Path) (a n : ℕ) → ((i : ℕ) → a ≤ i → i < a + n → H i ≡ J i) → claims_of H a n ≡ claims_of J a n
  unfolding claims_of
  claims_heads H J a zero e = refl
  claims_heads H J a (suc n) e = rw (claims_heads H J a n (λ i k l. e i k (omega arith)), e (a + n) (omega arith) (omega arith))

  pub highest_heads : (H J : ℕ → Head Path) (a n : ℕ) → ((i : ℕ) → a ≤ i → i < a + n → H i ≡ J i) → highest H a n ≡ highest J a n
  unfolding highest
  highest_heads H J a zero e = refl
  highest_heads H J a (suc n) e = rw (highest_heads H J a n (λ i k l. e i k (omega arith)), e (a + n) (omega arith) (omega arith))

  pub claims_split : (H : ℕ → Head Path) (a n m : ℕ) → claims_of H a (n + m) ≡ claims_of H a n + claims_of H (a + n) m
  unfolding claims_of
  claims_split H a n zero = rw (add-zero n) (omega arith)
  claims_split H a n (suc m) = rw (add-suc n m) (rw (claims_split H a n m, ← add_assoc a n m) (omega arith))

  pub highest_split : (H : ℕ → Head Path) (a n m : ℕ) → highest H a (n + m) ≡ max (highest H a n) (highest H (a + n) m)
  unfolding highest
  highest_split H a n zero = rw (add-zero n) (omega arith)
  highest_split H a n (suc m) = rw (add-suc n m) (rw (highest_split H a n m, ← add_assoc a n m) (omega arith))

  scan_balance : (H : ℕ → Head Path) (n : ℕ) (s : M.State K)
      → count (M.scan K H n s).rows + length (M.scan K H n s).losers ≡ count s.rows + length s.losers + claims_of H (length s.rows) n
  unfolding M.scan claims_of
  scan_balance H zero s = omega arith
  scan_balance H (suc n) s =
      let u = M.scan K H n s in
      let e : claims (H (length u.rows)) ≡ claims (H (length s.rows + n)) = rw (scan_length K H n s) in
      omega (arith, step_balance u (H (length u.rows)), scan_balance H n s)

  scan_counter : (H : ℕ → Head Path) (n : ℕ) (s : M.State K) → (M.scan K H n s).counter ≡ max s.counter (highest H (length s.rows) n)
  unfolding M.scan highest
  scan_counter H zero s = omega arith
  scan_counter H (suc n) s =
      let u = M.scan K H n s in
      let e : M.wants K (H (length u.rows)) ≡ M.wants K (H (length s.rows + n)) = rw (scan_length K H n s) in
      omega (arith, step_counter u (H (length u.rows)), scan_counter H n s)

  pub survey_balance : (n : ℕ) (s : M.State K)
      → count (M.survey K n s).rows + length (M.survey K n s).losers ≡ count s.rows + claims_of (head s.device) (length s.rows) n
  unfolding M.survey
  survey_balance n s = omega (arith, scan_balance (head s.device) n (M.read_all K n s))

  pub survey_counter : (n : ℕ) (s : M.State K) → (M.survey K n s).counter ≡ max s.counter (highest (head s.device) (length s.rows) n)
  unfolding M.survey
  survey_counter n s = scan_counter (head s.device) n (M.read_all K n s)

  -- releases change no number of bound rows, and spend one generation each
  drain_count : (N : ℕ) (H : ℕ → Head Path) (ls : List ℕ) (s : M.State K) → Fit K N H s ls → count (M.drain K ls s).rows ≡ count s.rows
  unfolding M.drain M.release
  drain_count N H [] s F = refl
  drain_count N H (i ∷ is) s F = drain_count N H is (M.release K s i) (release_fit K N H s i is F) ∙ count_free s.rows i s.counter (F.listed i (Memᴰ.head refl)).1

  drain_counter : (ls : List ℕ) (s : M.State K) → (M.drain K ls s).counter ≡ s.counter + length ls
  unfolding M.drain M.release
  drain_counter [] s = omega arith
  drain_counter (i ∷ is) s = omega (arith, drain_counter is (M.release K s i))

  pub adopt_count : (N : ℕ) (H : ℕ → Head Path) (n k : ℕ) (s : M.State K) → Pool K N H k s → k + n ≤ N → count (M.adopt K n s).rows ≡ count (M.survey K n s).rows
  unfolding M.adopt
  adopt_count N H n k s p more = drain_count N H (M.survey K n s).losers (M.survey K n s) (survey_fit K N H n k s p more).fit

  pub adopt_counter : (n : ℕ) (s : M.State K) → (M.adopt K n s).counter ≡ (M.survey K n s).counter + length (M.survey K n s).losers
  unfolding M.adopt
  adopt_counter n s = drain_counter (M.survey K n s).losers (M.survey K n s)
