-- The free slots where no release fails: each slot has its place (`Calm`), so the queue holds exactly the slots that are not bound.
-- A mount of what is left then finds no loser, and so the same free slots.
use Prim.Native.Nat.{ℕ, ◌+◌, ◌≤◌, ◌<◌, ◌^◌}
use native.Mathlib.Omega.{arith}
use native.Mathlib.Decide.{ℕ_discrete, dec_lt}
use mathlib.Core.Path.{◌≡◌, refl, sym, ◌∙◌}
use mathlib.Core.Logic.{◌≢◌, ◌⊎◌, inl, inr, ◌↔◌}
use mathlib.Core.Bool.{true}
use mathlib.Core.List.Memᴰ
use mathlib.Core.List.{List, [], ◌∷◌}
use lib.ListN.{length}
use Rattle.limits.specs.Limits.{last_counter}
use Rattle.lists.specs.Distinct.{In}
use Rattle.promises_model.specs.Model.{Claim, Head, claim, Row, bound, Kit}
use Rattle.promises_model.specs.Model as M
use Rattle.promises_model.specs.Promise.{SameFiles, SameFree, AllFine, NoneFails}
use Rattle.promises_model.proofs.Loops.{idle≢claim}
use Rattle.promises_model.proofs.Invariant.{Holders}
use Rattle.promises_model.proofs.Winner.{holders_agree}
use Rattle.promises_model.proofs.Moves.{last, Unheld, Place, held, pending, spare, Moves, step_moves, release_length, release_keeps}
use Rattle.promises_model.proofs.Pool as O
use Rattle.promises_model.proofs.Pool.{Fit, Pool, Steady, adopt_steady, empty_pool, survey_fit}

module _ (K : Kit) where
  open K use {Path, Device, Has, head, fine, sees, keeps, frees}

  abbrev at : List (Row Path) → ℕ → Row Path
  at = M.row_at K

  -- each slot has its place; `ls` are the losers not yet released
  unfoldable pub Calm : M.State K → List ℕ → Type 0
  Calm s ls = (i : ℕ) → i < length s.rows → Place K s.rows s.queue ls (head s.device i) i

  step_calm : (s : M.State K) (h : Head Path) → head s.device (length s.rows) ≡ h → Calm s s.losers → Calm (M.step K s h) (M.step K s h).losers
  unfolding Calm
  step_calm s h q C i l = rw mv.device (go (dec_lt i (length s.rows)))
    where
      t : M.State K
      t = M.step K s h

      mv : Moves K s h t
      mv = step_moves K s h

      old : (x : Head Path) → Place K s.rows s.queue s.losers x i → Place K t.rows t.queue t.losers x i
      old x (held c k) = keep (mv.forth i c k)
        where
          keep : (at t.rows i ≡ bound c) ⊎ In i t.losers → Place K t.rows t.queue t.losers x i
          keep (inl v) = held c v
          keep (inr v) = pending v
      old x (pending k) = pending (mv.lost_old i k)
      old x (spare k u) = spare (mv.queue_old i k) u

      go : Dec (i < length s.rows) → Place K t.rows t.queue t.losers (head s.device i) i
      go (yes u) = old (head s.device i) (C i u)
      go (no u) = let v : i ≡ length s.rows = omega (arith, mv.size) in rw (v, q) mv.here

  release_calm : (N : ℕ) (H : ℕ → Head Path) (s : M.State K) (i : ℕ) (ls : List ℕ) → Fit K N H s (i ∷ ls) → s.counter < last_counter → fine s.device i s.counter ≡ true
      → Calm s (i ∷ ls) → Calm (M.release K s i) ls
  unfolding Calm M.release
  release_calm N H s i ls F top f C j l = place (ℕ_discrete j i) (C j (omega (arith, release_length K s i)))
    where
      u : Unheld K s.rows i
      u = (F.listed i (Memᴰ.head refl)).1

      in_n : i < N
      in_n = O.inside K N F

      other : j ≢ i → head (M.release K s i).device j ≡ head s.device j
      other e = keeps s.device N i s.counter j F.has in_n (omega (arith, release_length K s i, F.room)) e

      t : M.State K
      t = M.release K s i

      here : In i t.queue
      here = rw f (last s.queue i)

      more : In j s.queue → In j t.queue
      more k = rw f (Memᴰ.append_left (i ∷ []) k)

      place : Dec (j ≡ i) → Place K s.rows s.queue (i ∷ ls) (head s.device j) j → Place K t.rows t.queue ls (head t.device j) j
      place (yes e) p = spare (rw e here) (λ c k. idle≢claim (sym (frees s.device N i s.counter F.has in_n top f) ∙ rw e at k))
      place (no e) (held c k) = held c (release_keeps K s i u j c k)
      place (no e) (pending k) = pending (tail (Memᴰ.cases_cons k))
        where
          tail : (j ≡ i) ⊎ In j ls → In j ls
          tail (inl q) = absurd (e q)
          tail (inr q) = q
      place (no e) (spare k v) = spare (more k) (λ c x. v c (sym (other e) ∙ x))

  -- the releases to come all succeed, and have generations left
  abbrev Fine : List ℕ → M.State K → Type 0
  Fine ls s = AllFine K ls s × (s.counter + length ls ≤ last_counter)

  steady : (N : ℕ) (H : ℕ → Head Path) → Steady K N H Fine Calm
  unfolding AllFine Calm M.release
  steady N H =
      record {
        reads = λ n s C i l. rw sees (C i l);
        steps = λ s h e q F C. step_calm s h q C;
        releases = λ s i ls F f C. release_calm N H s i ls F (omega (arith, f.1)) f.0.0 C;
        later = λ s i ls f. (f.0.1, omega (arith, f.1));
      }

  pub adopt_calm : (slots dir_rows : ℕ) (H : ℕ → Head Path) (n k : ℕ) (s : M.State K) → Pool K slots H k s → M.Accepts K slots dir_rows n s → NoneFails K n s → Calm s [] → Calm (M.adopt K n s) []
  unfolding NoneFails
  adopt_calm slots dir_rows H n k s p A f C = adopt_steady K slots H Fine Calm (steady slots H) n k s p (omega (arith, p.size, A.slots_fit)) C (f, A.gens_fit)

  pub mount_calm : (slots dir_rows n : ℕ) (w : Device) → Has w slots → M.Accepts K slots dir_rows n (M.empty K w) → NoneFails K n (M.empty K w) → Calm (M.mount K n w) []
  unfolding M.mount Calm
  mount_calm slots dir_rows n w has A f = adopt_calm slots dir_rows (head w) n 0 (M.empty K w) (empty_pool K slots w has) A f (λ i (l : i < 0). absurd (omega arith))

  -- the free slots are those that are not bound
  free_unheld : (N : ℕ) (H : ℕ → Head Path) (k : ℕ) (s : M.State K) → Pool K N H k s → Calm s [] → (i : ℕ) → In i s.queue ↔ ((i < k) × Unheld K s.rows i)
  unfolding Calm
  free_unheld N H k s p C i = (λ h. let u = p.fit.queued i h in (omega (arith, u.0, p.size), u.1), λ u. go u.1 (C i (omega (arith, p.size, u.0))))
    where
      go : Unheld K s.rows i → Place K s.rows s.queue [] (head s.device i) i → In i s.queue
      go u (held c k) = absurd (u c k)
      go u (pending k) = absurd (Memᴰ.not-nil k)
      go u (spare k v) = k

  -- so pools of the same files have the same free slots
  pub same_free : (N : ℕ) (H J : ℕ → Head Path) (k : ℕ) (s t : M.State K) → SameFiles K s t → Pool K N H k s → Calm s [] → Pool K N J k t → Calm t [] → SameFree K s t
  unfolding SameFree
  same_free N H J k s t A p C q D i = (
    λ h. let u = (free_unheld N H k s p C i).0 h in (free_unheld N J k t q D i).1 (u.0, λ c v. u.1 c ((A.held i c).1 v)),
    λ h. let u = (free_unheld N J k t q D i).0 h in (free_unheld N H k s p C i).1 (u.0, λ c v. u.1 c ((A.held i c).0 v)),
  )

  -- a pool none of whose releases failed, and its device mounted again
  module _ (N : ℕ) (H : ℕ → Head Path) (k : ℕ) (s : M.State K) (p : Pool K N H k s) (now : Holders K (head s.device) s.rows) (C : Calm s []) where
    -- what the device claims is bound
    claim_bound : (i : ℕ) (c : Claim Path) → i < k → head s.device i ≡ claim c → at s.rows i ≡ bound c
    unfolding Calm
    claim_bound i c l h = go (C i (omega (arith, p.size)))
      where
        go : Place K s.rows s.queue [] (head s.device i) i → at s.rows i ≡ bound c
        go (held d k) = let e : head s.device i ≡ claim d = now.sound i d k in let q : c ≡ d = cc in rw q k
        go (pending k) = absurd (Memᴰ.not-nil k)
        go (spare k v) = absurd (v c h)

    abbrev again : M.State K
    again = M.survey K k (M.empty K s.device)

    -- the second mount has no loser
    no_loser : (i : ℕ) → In i again.losers → ⊥
    no_loser i m =
        let S = survey_fit K N (head s.device) k 0 (M.empty K s.device) (empty_pool K N s.device p.fit.has) (omega (arith, p.size, p.fit.room)) in
        let l = S.fit.listed i m in
        let u = S.fit.claimed i m in
        l.1 u.0 ((holders_agree K s.rows again.rows (omega (arith, p.size, S.size)) now S.fit.holders i u.0).0 (claim_bound i u.0 (omega (arith, l.0, S.size)) u.1))

    pub no_losers : length again.losers ≡ 0
    no_losers = go again.losers no_loser
      where
        go : (ls : List ℕ) → ((i : ℕ) → In i ls → ⊥) → length ls ≡ 0
        go [] f = refl
        go (i ∷ is) f = absurd (f i (Memᴰ.head refl))

    pub again_fine : NoneFails K k (M.empty K s.device)
    unfolding NoneFails AllFine
    again_fine = go again.losers again no_loser
      where
        go : (ls : List ℕ) (u : M.State K) → ((i : ℕ) → In i ls → ⊥) → AllFine K ls u
        go [] u f = tt
        go (i ∷ is) u f = absurd (f i (Memᴰ.head refl))

    pub again_free : (dir_rows : ℕ) → M.Accepts K N dir_rows k (M.empty K s.device) → SameFiles K s (M.mount K k s.device) → Pool K N (head s.device) k (M.mount K k s.device)
        → SameFree K s (M.mount K k s.device)
    again_free dir_rows A F q = same_free N H (head s.device) k s (M.mount K k s.device) F p C q (mount_calm N dir_rows k s.device p.fit.has A again_fine)
