-- What one slot changes: rows, queue and losers, whichever way its header goes (`step_moves`). What a release changes in the rows.
use Prim.Native.Nat.{ℕ, suc, ◌≤◌, ◌<◌}
use native.Mathlib.Omega.{arith}
use native.Mathlib.Decide.{ℕ_discrete}
use mathlib.Core.Path.{◌≡◌, refl, ap, sym, ◌∙◌}
use mathlib.Core.Logic.{◌≢◌, ◌⊎◌, inl, inr}
use mathlib.Core.Bool.{Bool, true, false}
use mathlib.Core.List.Memᴰ
use mathlib.Core.List.{List, [], ◌∷◌, ◌++◌}
use lib.ListN.{length, set, length-set}
use lib.Seq.{get_or-set_other, get_or-append_seam}
use Rattle.lists.specs.Distinct.{In, snoc_in}
use Rattle.promises_model.specs.Model.{Claim, Head, absent, idle, claim, Row, unbound, bound, Kit}
use Rattle.promises_model.specs.Model as M
use Rattle.promises_model.proofs.Loops.{unbound≢bound, bound≢unbound, absent≢claim, idle≢claim}
use Rattle.promises_model.proofs.Rows.{length_snoc, snoc_cases, inside, snoc_old, set_cases}

pub last : {A : Type 0} (l : List A) (a : A) → In a (l ++ (a ∷ []))
last l a = Memᴰ.append_right l (Memᴰ.head refl)

module _ (K : Kit) where
  open K use {Path}

  abbrev at : List (Row Path) → ℕ → Row Path
  at = M.row_at K

  -- slot i holds nothing
  abbrev pub Unheld : List (Row Path) → ℕ → Type 0
  Unheld rs i = (c : Claim Path) → at rs i ≢ bound c

  -- where a slot is: bound; lost and not yet released; or queued, and its header claims nothing
  pub data Place (rs : List (Row Path)) (q l : List ℕ) (h : Head Path) (i : ℕ) : Type 0 where
    held : (c : Claim Path) → at rs i ≡ bound c → Place rs q l h i
    pending : In i l → Place rs q l h i
    spare : In i q → ((c : Claim Path) → h ≢ claim c) → Place rs q l h i

  -- a loser's claim: a holder's, or the newest slot's own
  abbrev pub Lost : M.State K → Head Path → ℕ → Type 0
  Lost s h i = (c : Claim Path) × ((at s.rows i ≡ bound c) ⊎ ((i ≡ length s.rows) × (h ≡ claim c)))

  -- the step from s to t by the newest slot's header h: what is bound, queued and lost after it, and where the newest slot is
  pub record Moves (s : M.State K) (h : Head Path) (t : M.State K) : Type 0 where
    pub size : length t.rows ≡ suc (length s.rows)
    pub device : t.device ≡ s.device
    pub back : (i : ℕ) (c : Claim Path) → at t.rows i ≡ bound c → (at s.rows i ≡ bound c) ⊎ (i ≡ length s.rows)
    pub forth : (i : ℕ) (c : Claim Path) → at s.rows i ≡ bound c → (at t.rows i ≡ bound c) ⊎ In i t.losers
    pub here : Place t.rows t.queue t.losers h (length s.rows)
    pub queue_old : (i : ℕ) → In i s.queue → In i t.queue
    pub lost_old : (i : ℕ) → In i s.losers → In i t.losers
    pub queue_new : (i : ℕ) → In i t.queue → In i s.queue ⊎ ((i ≡ length s.rows) × Unheld t.rows i)
    pub lost_new : (i : ℕ) → In i t.losers → In i s.losers ⊎ ((i ≤ length s.rows) × Unheld t.rows i × Lost s h i)

  module _ (s : M.State K) where
    abbrev n : ℕ
    n = length s.rows

    snoc_back : (ts : List (Row Path)) (r : Row Path) → length ts ≡ n → (i : ℕ) (c : Claim Path) → at (ts ++ (r ∷ [])) i ≡ bound c → (at ts i ≡ bound c) ⊎ (i ≡ n)
    snoc_back ts r e i c h = go (snoc_cases (unbound 0) ts r (bound c) i h)
      where
        go : (at ts i ≡ bound c) ⊎ ((i ≡ length ts) × (r ≡ bound c)) → (at ts i ≡ bound c) ⊎ (i ≡ n)
        go (inl k) = inl k
        go (inr k) = inr (k.0 ∙ e)

    empty_here : Unheld (s.rows ++ (unbound 0 ∷ [])) n
    empty_here c e = unbound≢bound (sym (get_or-append_seam s.rows (unbound 0) [] (unbound 0)) ∙ e)

    keep : (r : Row Path) (i : ℕ) (c : Claim Path) → at s.rows i ≡ bound c → at (s.rows ++ (r ∷ [])) i ≡ bound c
    keep r i c h = snoc_old (unbound 0) s.rows r (bound c) i bound≢unbound h

    pub spare_moves : (h : Head Path) → ((c : Claim Path) → h ≢ claim c) → Moves s h (M.spare K s h)
    spare_moves h no_claim =
        record {
          size = length_snoc s.rows (unbound 0);
          device = refl;
          back = snoc_back s.rows (unbound 0) refl;
          forth = λ i c k. inl (keep (unbound 0) i c k);
          here = spare (last s.queue n) no_claim;
          queue_old = λ i k. Memᴰ.append_left (n ∷ []) k;
          lost_old = λ i k. k;
          queue_new = λ i k. queued i (snoc_in s.queue n i k);
          lost_new = λ i k. inl k;
        }
      where
        queued : (i : ℕ) → In i s.queue ⊎ (i ≡ n) → In i s.queue ⊎ ((i ≡ n) × Unheld (s.rows ++ (unbound 0 ∷ [])) i)
        queued i (inl k) = inl k
        queued i (inr e) = inr (e, rw e empty_here)

    -- a claim's step, by what it leaves
    module _ (c : Claim Path) where
      claimed : (ts : List (Row Path)) (ls : List ℕ) (r : Row Path) → length ts ≡ n
          → ((i : ℕ) (d : Claim Path) → at ts i ≡ bound d → at s.rows i ≡ bound d)
          → ((i : ℕ) (d : Claim Path) → at s.rows i ≡ bound d → (at ts i ≡ bound d) ⊎ In i (s.losers ++ ls))
          → Place (ts ++ (r ∷ [])) s.queue (s.losers ++ ls) (claim c) n
          → ((i : ℕ) → In i ls → (i ≤ n) × Unheld (ts ++ (r ∷ [])) i × Lost s (claim c) i)
          → Moves s (claim c) (M.enter K s c ts ls r)
      claimed ts ls r e back forth here listed =
          record {
            size = length_snoc ts r ∙ ap suc e;
            device = refl;
            back = λ i d k. backed i d (snoc_back ts r e i d k);
            forth = λ i d k. up i d (forth i d k);
            here = here;
            queue_old = λ i k. k;
            lost_old = λ i k. Memᴰ.append_left ls k;
            queue_new = λ i k. inl k;
            lost_new = λ i k. lost i (Memᴰ.append_cases s.losers k);
          }
        where
          backed : (i : ℕ) (d : Claim Path) → (at ts i ≡ bound d) ⊎ (i ≡ n) → (at s.rows i ≡ bound d) ⊎ (i ≡ n)
          backed i d (inl k) = inl (back i d k)
          backed i d (inr k) = inr k

          up : (i : ℕ) (d : Claim Path) → (at ts i ≡ bound d) ⊎ In i (s.losers ++ ls) → (at (ts ++ (r ∷ [])) i ≡ bound d) ⊎ In i (s.losers ++ ls)
          up i d (inl k) = inl (snoc_old (unbound 0) ts r (bound d) i bound≢unbound k)
          up i d (inr k) = inr k

          lost : (i : ℕ) → In i s.losers ⊎ In i ls → In i s.losers ⊎ ((i ≤ n) × Unheld (ts ++ (r ∷ [])) i × Lost s (claim c) i)
          lost i (inl k) = inl k
          lost i (inr k) = inr (listed i k)

      at_last : (ts : List (Row Path)) (r : Row Path) → length ts ≡ n → at (ts ++ (r ∷ [])) n ≡ r
      at_last ts r e = rw (← e) (get_or-append_seam ts r [] (unbound 0))

      pub win_moves : Moves s (claim c) (M.enter K s c s.rows [] (bound c))
      win_moves =
          claimed s.rows [] (bound c) refl (λ i d k. k) (λ i d k. inl k)
          (held c (at_last s.rows (bound c) refl))
          (λ i k. absurd (Memᴰ.not-nil k))

      pub lose_moves : Moves s (claim c) (M.enter K s c s.rows (n ∷ []) (unbound 0))
      lose_moves =
          claimed s.rows (n ∷ []) (unbound 0) refl (λ i d k. k) (λ i d k. inl k)
          (pending (last s.losers n))
          (λ i k. let e : i ≡ n = Memᴰ.eq_of_singleton k in (omega arith, rw e empty_here, (c, inr (e, refl))))

      pub oust_moves : (j : ℕ) (d : Claim Path) → at s.rows j ≡ bound d → Moves s (claim c) (M.enter K s c (set s.rows j (unbound 0)) (j ∷ []) (bound c))
      oust_moves j d k =
          claimed ts (j ∷ []) (bound c) e
          (λ i f u. (back i f u).0)
          (λ i f u. forth i f u (ℕ_discrete i j))
          (held c (at_last ts (bound c) e))
          (λ i m. let q : i ≡ j = Memᴰ.eq_of_singleton m in (omega (arith, j<n), rw q gone, (d, inl (rw q k))))
        where
          ts : List (Row Path)
          ts = set s.rows j (unbound 0)

          e : length ts ≡ n
          e = length-set s.rows j (unbound 0)

          j<n : j < n
          j<n = inside (unbound 0) s.rows (bound d) j bound≢unbound k

          back : (i : ℕ) (f : Claim Path) → at ts i ≡ bound f → (at s.rows i ≡ bound f) × (i ≢ j)
          back i f u = set_cases (unbound 0) s.rows j (unbound 0) (bound f) i unbound≢bound unbound≢bound u

          forth : (i : ℕ) (f : Claim Path) → at s.rows i ≡ bound f → Dec (i ≡ j) → (at ts i ≡ bound f) ⊎ In i (s.losers ++ (j ∷ []))
          forth i f u (yes q) = inr (rw q (last s.losers j))
          forth i f u (no q) = inl (get_or-set_other s.rows j i (unbound 0) (unbound 0) q ∙ u)

          gone : Unheld (ts ++ (bound c ∷ [])) j
          gone f u = no_way (snoc_back ts (bound c) e j f u)
            where
              no_way : (at ts j ≡ bound f) ⊎ (j ≡ n) → ⊥
              no_way (inl v) = (back j f v).1 refl
              no_way (inr v) = omega (arith, j<n)

  pub step_moves : (s : M.State K) (h : Head Path) → Moves s h (M.step K s h)
  unfolding M.step
  step_moves s absent = spare_moves s absent (λ c. absent≢claim)
  step_moves s (idle g) = spare_moves s (idle g) (λ c. idle≢claim)
  step_moves s (claim c) = meet (at s.rows j) refl
    where
      j : ℕ
      j = M.find K c.path s.rows

      rival : (d : Claim Path) → at s.rows j ≡ bound d → (b : Bool) → Moves s (claim c) (M.rival K s c j b)
      rival d k true = lose_moves s c
      rival d k false = oust_moves s c j d k

      meet : (r : Row Path) → at s.rows j ≡ r → Moves s (claim c) (M.meet K s c j r)
      meet (unbound g) k = win_moves s c
      meet (bound d) k = rival d k (M.stands K d c)

  -- a release unbinds its slot, and leaves every other row
  module _ (s : M.State K) (i : ℕ) where
    abbrev r : M.State K
    r = M.release K s i

    pub release_length : length r.rows ≡ length s.rows
    unfolding M.release
    release_length = length-set s.rows i (unbound s.counter)

    pub release_back : (j : ℕ) (c : Claim Path) → at r.rows j ≡ bound c → at s.rows j ≡ bound c
    unfolding M.release
    release_back j c k = (set_cases (unbound 0) s.rows i (unbound s.counter) (bound c) j unbound≢bound unbound≢bound k).0

    pub release_keeps : Unheld s.rows i → (j : ℕ) (c : Claim Path) → at s.rows j ≡ bound c → at r.rows j ≡ bound c
    unfolding M.release
    release_keeps u j c k = get_or-set_other s.rows i j (unbound s.counter) (unbound 0) (λ e. u c (rw e at k)) ∙ k
