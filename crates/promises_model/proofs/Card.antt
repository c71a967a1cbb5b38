-- What the device says of the slots held, whatever fails (`Card`): a header is as it was, or claims nothing and its slot holds nothing.
-- So the rows are the holders of the headers as they are now, too (`now_holders`), which is why mounting again gives the same.
use Prim.Native.Nat.{ℕ, suc, ◌+◌, ◌≤◌, ◌<◌, ◌^◌}
use native.Mathlib.Omega.{arith}
use native.Mathlib.Decide.{ℕ_discrete, dec_lt}
use mathlib.Core.Path.{◌≡◌, refl, sym, ◌∙◌}
use mathlib.Core.Logic.{◌≢◌, ◌⊎◌, inl, inr}
use mathlib.Core.Bool.{Bool, true, false}
use mathlib.Core.List.Memᴰ
use mathlib.Core.List.{List, ◌∷◌}
use lib.ListN.{length}
use Rattle.limits.specs.Limits.{last_counter}
use Rattle.promises_model.specs.Model.{Claim, Head, idle, claim, unbound, bound, Kit}
use Rattle.promises_model.specs.Model as M
use Rattle.promises_model.proofs.Loops.{idle≢claim, bound≢unbound}
use Rattle.promises_model.proofs.Rows.{inside}
use Rattle.promises_model.proofs.Invariant.{Holders}
use Rattle.promises_model.proofs.Moves.{Unheld, Moves, step_moves, release_length, release_back}
use Rattle.promises_model.proofs.Pool as O
use Rattle.promises_model.proofs.Pool.{Fit, Pool, Steady, adopt_steady, empty_pool}
use Rattle.promises_model.proofs.Count.{step_counter}

module _ (K : Kit) where
  open K use {Path, Device, Has, head, free, fine, sees, keeps, frees, stays}

  abbrev Worn : M.State K → Head Path → ℕ → Type 0
  Worn s h i = (head s.device i ≡ h) ⊎ (Unheld K s.rows i × ((c : Claim Path) → head s.device i ≢ claim c))

  -- `worn`: as it was, or spent; `under`: no generation reaches the counter
  pub record Card (H : ℕ → Head Path) (s : M.State K) : Type 0 where
    pub worn : (i : ℕ) → i < length s.rows → Worn s (H i) i
    pub under : (i : ℕ) → i < length s.rows → M.wants K (head s.device i) ≤ s.counter
    pub started : 1 ≤ s.counter

  step_card : (H : ℕ → Head Path) (s : M.State K) (h : Head Path) → H (length s.rows) ≡ h → head s.device (length s.rows) ≡ h → Card H s → Card H (M.step K s h)
  step_card H s h e q C =
      record {
        worn = λ i l. worn i (dec_lt i (length s.rows)) l;
        under = λ i l. rw mv.device (under i (dec_lt i (length s.rows)) l);
        started = omega (arith, step_counter K s h, C.started);
      }
    where
      t : M.State K
      t = M.step K s h

      mv : Moves K s h t
      mv = step_moves K s h

      newest : (i : ℕ) → ¬ (i < length s.rows) → i < length t.rows → i ≡ length s.rows
      newest i u l = omega (arith, mv.size)

      still : (i : ℕ) → i < length s.rows → Unheld K s.rows i → Unheld K t.rows i
      still i l u c k = no_way (mv.back i c k)
        where
          no_way : (M.row_at K s.rows i ≡ bound c) ⊎ (i ≡ length s.rows) → ⊥
          no_way (inl v) = u c v
          no_way (inr v) = omega arith

      worn : (i : ℕ) → Dec (i < length s.rows) → i < length t.rows → Worn t (H i) i
      worn i (no u) l = let v = newest i u l in inl (rw mv.device (rw v (q ∙ sym e)))
      worn i (yes u) l = go (C.worn i u)
        where
          go : Worn s (H i) i → Worn t (H i) i
          go (inl k) = inl (rw mv.device k)
          go (inr k) = inr (still i u k.0, λ c. rw mv.device (k.1 c))

      under : (i : ℕ) → Dec (i < length s.rows) → i < length t.rows → M.wants K (head s.device i) ≤ t.counter
      under i (no u) l = let v = newest i u l in rw (v, q) (omega (arith, step_counter K s h))
      under i (yes u) l = omega (arith, step_counter K s h, C.under i u)

  release_card : (N : ℕ) (H : ℕ → Head Path) (s : M.State K) (i : ℕ) (ls : List ℕ) → Fit K N H s (i ∷ ls) → s.counter < last_counter → Card H s → Card H (M.release K s i)
  unfolding M.release
  release_card N H s i ls F top C =
      record {
        worn = λ j l. worn j (ℕ_discrete j i) (omega (arith, size));
        under = λ j l. under j (ℕ_discrete j i) (omega (arith, size));
        started = omega arith;
      }
    where
      t : M.State K
      t = M.release K s i

      g : ℕ
      g = s.counter

      u : Unheld K s.rows i
      u = (F.listed i (Memᴰ.head refl)).1

      in_n : i < N
      in_n = O.inside K N F

      other : (j : ℕ) → j ≢ i → j < length s.rows → head (free s.device i g) j ≡ head s.device j
      other j e l = keeps s.device N i g j F.has in_n (omega (arith, F.room)) e

      size : length t.rows ≡ length s.rows
      size = release_length K s i

      gone : (j : ℕ) → Unheld K s.rows j → Unheld K t.rows j
      gone j v c k = v c (release_back K s i j c k)

      -- the slot's own header: as before, or free
      own : (b : Bool) → fine s.device i g ≡ b → (head t.device i ≡ head s.device i) ⊎ (head t.device i ≡ idle g)
      own true f = inr (frees s.device N i g F.has in_n top f)
      own false f = stays s.device N i g F.has in_n top f

      worn : (j : ℕ) → Dec (j ≡ i) → j < length s.rows → Worn t (H j) j
      worn j d l = go d (C.worn j l)
        where
          here : (head t.device i ≡ head s.device i) ⊎ (head t.device i ≡ idle g) → Worn s (H i) i → Worn t (H i) i
          here (inr f) w = inr (gone i u, λ c k. idle≢claim (sym f ∙ k))
          here (inl f) (inl k) = inl (f ∙ k)
          here (inl f) (inr k) = inr (gone i u, λ c v. k.1 c (sym f ∙ v))

          go : Dec (j ≡ i) → Worn s (H j) j → Worn t (H j) j
          go (yes e) w = rw e (here (own (fine s.device i g) refl) (rw e at w))
          go (no e) (inl k) = inl (other j e l ∙ k)
          go (no e) (inr k) = inr (gone j k.0, λ c v. k.1 c (sym (other j e l) ∙ v))

      under : (j : ℕ) → Dec (j ≡ i) → j < length s.rows → M.wants K (head t.device j) ≤ suc g
      under j (no e) l = rw (other j e l) (omega (arith, C.under j l))
      under j (yes e) l = rw e (here (own (fine s.device i g) refl) (rw e at (C.under j l)))
        where
          here : (head t.device i ≡ head s.device i) ⊎ (head t.device i ≡ idle g) → M.wants K (head s.device i) ≤ g → M.wants K (head t.device i) ≤ suc g
          here (inl f) a = rw f (omega arith)
          here (inr f) a = rw f (omega arith)

  -- the releases to come have generations left
  abbrev Room : List ℕ → M.State K → Type 0
  Room ls s = s.counter + length ls ≤ last_counter

  steady : (N : ℕ) (H : ℕ → Head Path) → Steady K N H Room (λ s ls. Card H s)
  unfolding M.release
  steady N H =
      record {
        reads = λ n s C. record { worn = λ i l. read n s i (C.worn i l); under = λ i l. rw sees (C.under i l); started = C.started };
        steps = λ s h e q F C. step_card H s h e q C;
        releases = λ s i ls F r C. release_card N H s i ls F (omega (arith, r)) C;
        later = λ s i ls r. omega (arith, r);
      }
    where
      read : (n : ℕ) (s : M.State K) (i : ℕ) → Worn s (H i) i → Worn (M.read_all K n s) (H i) i
      read n s i (inl k) = inl (sees _ _ _ i ∙ k)
      read n s i (inr k) = inr (k.0, λ c v. k.1 c (sym (sees _ _ _ i) ∙ v))

  empty_card : (w : Device) → Card (head w) (M.empty K w)
  empty_card w = record { worn = λ i (l : i < 0). absurd (omega arith); under = λ i (l : i < 0). absurd (omega arith); started = omega arith }

  pub adopt_card : (slots dir_rows : ℕ) (H : ℕ → Head Path) (n k : ℕ) (s : M.State K) → Pool K slots H k s → M.Accepts K slots dir_rows n s → Card H s → Card H (M.adopt K n s)
  adopt_card slots dir_rows H n k s p A C = adopt_steady K slots H Room (λ s ls. Card H s) (steady slots H) n k s p (omega (arith, p.size, A.slots_fit)) C A.gens_fit

  pub mount_card : (slots dir_rows n : ℕ) (w : Device) → Has w slots → M.Accepts K slots dir_rows n (M.empty K w) → Card (head w) (M.mount K n w)
  unfolding M.mount
  mount_card slots dir_rows n w has A = adopt_card slots dir_rows (head w) n 0 (M.empty K w) (empty_pool K slots w has) A (empty_card w)

  -- the headers as they are now have the same holders
  pub now_holders : (H : ℕ → Head Path) (s : M.State K) → Holders K H s.rows → Card H s → Holders K (head s.device) s.rows
  now_holders H s G C =
      record {
        sound = λ i c h. sound i c h (C.worn i (inside (unbound 0) s.rows (bound c) i bound≢unbound h));
        uniq = G.uniq;
        held = λ m e l h. G.held m e l (was m e h (C.worn m l));
      }
    where
      sound : (i : ℕ) (c : Claim Path) → M.row_at K s.rows i ≡ bound c → Worn s (H i) i → head s.device i ≡ claim c
      sound i c h (inl k) = k ∙ G.sound i c h
      sound i c h (inr k) = absurd (k.0 c h)

      was : (m : ℕ) (e : Claim Path) → head s.device m ≡ claim e → Worn s (H m) m → H m ≡ claim e
      was m e h (inl k) = sym k ∙ h
      was m e h (inr k) = absurd (k.1 e h)

  -- a claim that is on the device now was there before
  pub still_claim : (H : ℕ → Head Path) (s : M.State K) → Card H s → (i : ℕ) (c : Claim Path) → i < length s.rows → head s.device i ≡ claim c → H i ≡ claim c
  still_claim H s C i c l h = go (C.worn i l)
    where
      go : Worn s (H i) i → H i ≡ claim c
      go (inl k) = sym k ∙ h
      go (inr k) = absurd (k.1 c h)
