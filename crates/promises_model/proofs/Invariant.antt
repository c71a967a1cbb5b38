-- The invariant of a scan: the bound rows are the holders (`Holders`). One more slot keeps it, whichever way its claim goes.
use Prim.Native.Nat.{ℕ, suc, ◌≤◌, ◌<◌}
use native.Mathlib.Omega.{arith}
use native.Mathlib.Decide.{ℕ_discrete, dec_lt}
use mathlib.Core.Path.{◌≡◌, refl, ap, sym, ◌∙◌}
use mathlib.Core.Logic.{◌≢◌, ◌⊎◌, inl, inr}
use mathlib.Core.Bool.{Bool, true, false, false≢true}
use mathlib.Core.List.{List, [], ◌∷◌, ◌++◌}
use lib.ListN.{length, set, length-set}
use lib.Seq.{get_or-set_other, get_or-append_seam}
use borrow.Author.Tests.{leb-true, leb-false}
use Rattle.promises_model.specs.Model.{Claim, Head, absent, idle, claim, Row, unbound, bound, Kit}
use Rattle.promises_model.specs.Model as M
use Rattle.promises_model.proofs.Loops as L
use Rattle.promises_model.proofs.Loops.{unbound≢bound, bound≢unbound, absent≢claim, idle≢claim}
use Rattle.promises_model.proofs.Rows.{length_snoc, snoc_cases, inside, snoc_old, set_cases}

module _ (K : Kit) where
  open K use {Path, same, same_refl, same_sym, same_trans}

  abbrev at : List (Row Path) → ℕ → Row Path
  at = M.row_at K

  -- the claim `e` of slot `m` is held: by a row of an equal path, of a generation as high, and higher if its slot is
  pub record Held (rs : List (Row Path)) (m : ℕ) (e : Claim Path) : Type 0 where
    pub slot : ℕ
    pub by : Claim Path
    pub holds : at rs slot ≡ bound by
    pub like : same e.path by.path ≡ true
    pub top : e.gen ≤ by.gen
    pub tie : m < slot → e.gen < by.gen

  -- the bound rows are the holders, by the headers H: each says what its header claims, no two have equal paths, and each claim is held
  pub record Holders (H : ℕ → Head Path) (rs : List (Row Path)) : Type 0 where
    pub sound : (i : ℕ) (c : Claim Path) → at rs i ≡ bound c → H i ≡ claim c
    pub uniq : (i j : ℕ) (c d : Claim Path) → at rs i ≡ bound c → at rs j ≡ bound d → same c.path d.path ≡ true → i ≡ j
    pub held : (m : ℕ) (e : Claim Path) → m < length rs → H m ≡ claim e → Held rs m e

  -- what is bound decides it
  pub holders_move : {H : ℕ → Head Path} (rs ts : List (Row Path)) → length ts ≡ length rs
      → ((i : ℕ) (c : Claim Path) → at rs i ≡ bound c → at ts i ≡ bound c) → ((i : ℕ) (c : Claim Path) → at ts i ≡ bound c → at rs i ≡ bound c)
      → Holders H rs → Holders H ts
  holders_move rs ts n to fro G =
      record {
        sound = λ i c h. G.sound i c (fro i c h);
        uniq = λ i j c d h k. G.uniq i j c d (fro i c h) (fro j d k);
        held = λ m e l h.
            let t = G.held m e (omega arith) h in
            record { slot = t.slot; by = t.by; holds = to _ _ t.holds; like = t.like; top = t.top; tie = t.tie };
      }

  pub holders_none : (H : ℕ → Head Path) → Holders H []
  holders_none H =
      record {
        sound = λ i c h. absurd (unbound≢bound h);
        uniq = λ i j c d h. absurd (unbound≢bound h);
        held = λ m e (l : m < 0). absurd (omega arith);
      }

  -- a claim stays held where its holder stays
  abbrev moved : {rs ts : List (Row Path)} {m : ℕ} {e : Claim Path} (t : Held rs m e) → at ts t.slot ≡ bound t.by → Held ts m e
  moved t h = record { slot = t.slot; by = t.by; holds = h; like = t.like; top = t.top; tie = t.tie }

  module _ (H : ℕ → Head Path) (rs : List (Row Path)) (G : Holders H rs) where
    -- one more row `r`, over rows `ts` that keep some of what was bound
    grow : (ts : List (Row Path)) (r : Row Path) → length ts ≡ length rs
        → ((i : ℕ) (c : Claim Path) → at ts i ≡ bound c → at rs i ≡ bound c)
        → ((c : Claim Path) → r ≡ bound c → (H (length rs) ≡ claim c) × ((i : ℕ) (d : Claim Path) → at ts i ≡ bound d → same c.path d.path ≡ true → ⊥))
        → ((m : ℕ) (e : Claim Path) → m < length rs → Held rs m e → Held (ts ++ (r ∷ [])) m e)
        → ((e : Claim Path) → H (length rs) ≡ claim e → Held (ts ++ (r ∷ [])) (length rs) e)
        → Holders H (ts ++ (r ∷ []))
    grow ts r n old new stay here =
        record {
          sound = λ i c h. sound (snoc_cases (unbound 0) ts r (bound c) i h);
          uniq = λ i j c d h k. uniq (snoc_cases (unbound 0) ts r (bound c) i h) (snoc_cases (unbound 0) ts r (bound d) j k);
          held = λ m e l k. held m e (dec_lt m (length rs)) (rw length_snoc at l) k;
        }
      where
        sound : {i : ℕ} {c : Claim Path} → (at ts i ≡ bound c) ⊎ ((i ≡ length ts) × (r ≡ bound c)) → H i ≡ claim c
        sound {i} {c} (inl h) = G.sound i c (old i c h)
        sound {i} {c} (inr h) = ap H (h.0 ∙ n) ∙ (new c h.1).0

        uniq : {i j : ℕ} {c d : Claim Path} → (at ts i ≡ bound c) ⊎ ((i ≡ length ts) × (r ≡ bound c)) → (at ts j ≡ bound d) ⊎ ((j ≡ length ts) × (r ≡ bound d))
            → same c.path d.path ≡ true → i ≡ j
        uniq {i} {j} {c} {d} (inl h) (inl k) e = G.uniq i j c d (old i c h) (old j d k) e
        uniq {i} {j} {c} {d} (inl h) (inr k) e = absurd ((new d k.1).1 i c h (same_sym _ _ e))
        uniq {i} {j} {c} {d} (inr h) (inl k) e = absurd ((new c h.1).1 j d k e)
        uniq {i} {j} {c} {d} (inr h) (inr k) e = h.0 ∙ sym k.0

        held : (m : ℕ) (e : Claim Path) → Dec (m < length rs) → m < suc (length ts) → H m ≡ claim e → Held (ts ++ (r ∷ [])) m e
        held m e (yes l) u k = stay m e l (G.held m e l k)
        held m e (no l) u k = let q : m ≡ length rs = omega arith in rw q (here e (rw q at k))

    -- no new holder: a slot that claims nothing, or whose claim is held
    pub holders_same : ((e : Claim Path) → H (length rs) ≡ claim e → Held rs (length rs) e) → Holders H (rs ++ (unbound 0 ∷ []))
    holders_same here =
        grow rs (unbound 0) refl (λ i c h. h) (λ c e. absurd (unbound≢bound e)) (λ m e l t. up t) (λ e k. up (here e k))
      where
        up : {m : ℕ} {e : Claim Path} → Held rs m e → Held (rs ++ (unbound 0 ∷ [])) m e
        up t = moved t (snoc_old (unbound 0) rs (unbound 0) (bound t.by) t.slot bound≢unbound t.holds)

    module _ (c : Claim Path) (h : H (length rs) ≡ claim c) where
      self : (ts : List (Row Path)) → length ts ≡ length rs → (e : Claim Path) → H (length rs) ≡ claim e → Held (ts ++ (bound c ∷ [])) (length rs) e
      self ts n e k =
          let q : c ≡ e = cc in
          let g : c.gen ≡ e.gen = cc in
          record {
            slot = length rs;
            by = c;
            holds = rw (← n) (get_or-append_seam ts (bound c) [] (unbound 0));
            like = rw q (same_refl e.path);
            top = omega arith;
            tie = λ l. omega arith;
          }

      pub holders_more : ((i : ℕ) (d : Claim Path) → at rs i ≡ bound d → same c.path d.path ≡ true → ⊥) → Holders H (rs ++ (bound c ∷ []))
      holders_more free =
          grow rs (bound c) refl (λ i d k. k)
          (λ d e. let q : c ≡ d = cc in rw (← q) (h, free))
          (λ m e l t. moved t (snoc_old (unbound 0) rs (bound c) (bound t.by) t.slot bound≢unbound t.holds))
          (self rs refl)

      pub holders_oust : (j : ℕ) (d : Claim Path) → at rs j ≡ bound d → same c.path d.path ≡ true → d.gen < c.gen
          → Holders H (set rs j (unbound 0) ++ (bound c ∷ []))
      holders_oust j d k like lt =
          grow ts (bound c) n (λ i e u. (back i e u).0)
          (λ e q. let q' : c ≡ e = cc in rw (← q') (h, λ i f u v. (back i f u).1 (G.uniq i j f d (back i f u).0 k (same_trans _ _ _ (same_sym _ _ v) like))))
          (λ m e l t. stay m e l t (ℕ_discrete t.slot j))
          (self ts n)
        where
          ts : List (Row Path)
          ts = set rs j (unbound 0)

          n : length ts ≡ length rs
          n = length-set rs j (unbound 0)

          back : (i : ℕ) (e : Claim Path) → at ts i ≡ bound e → (at rs i ≡ bound e) × (i ≢ j)
          back i e u = set_cases (unbound 0) rs j (unbound 0) (bound e) i unbound≢bound unbound≢bound u

          stay : (m : ℕ) (e : Claim Path) → m < length rs → (t : Held rs m e) → Dec (t.slot ≡ j) → Held (ts ++ (bound c ∷ [])) m e
          stay m e l t (yes q) =
              let r : d ≡ t.by = cc in
              let g : d.gen ≡ t.by.gen = cc in
              record {
                slot = length rs;
                by = c;
                holds = rw (← n) (get_or-append_seam ts (bound c) [] (unbound 0));
                like = same_trans _ _ _ t.like (rw r at (same_sym _ _ like));
                top = omega arith;
                tie = λ l. omega arith;
              }
          stay m e l t (no q) =
              moved t (snoc_old (unbound 0) ts (bound c) (bound t.by) t.slot bound≢unbound (get_or-set_other rs j t.slot (unbound 0) (unbound 0) q ∙ t.holds))

  -- one more slot
  pub step_holders : (H : ℕ → Head Path) (s : M.State K) (h : Head Path) → H (length s.rows) ≡ h → Holders H s.rows → Holders H (M.step K s h).rows
  unfolding M.step
  step_holders H s absent e G = holders_same H s.rows G (λ c k. absurd (absent≢claim (sym e ∙ k)))
  step_holders H s (idle g) e G = holders_same H s.rows G (λ c k. absurd (idle≢claim (sym e ∙ k)))
  step_holders H s (claim c) e G = meet (at s.rows j) refl
    where
      j : ℕ
      j = M.find K c.path s.rows

      none : (g : ℕ) → at s.rows j ≡ unbound g → M.holds K c.path (at s.rows j) ≡ true → ⊥
      none g k t = false≢true (rw k at t)

      rival : (d : Claim Path) → at s.rows j ≡ bound d → (b : Bool) → M.stands K d c ≡ b → Holders H (M.rival K s c j b).rows
      rival d k true t =
          holders_same H s.rows G
          (λ f u. let q : c ≡ f = cc in
          rw (← q)
          (record {
            slot = j;
            by = d;
            holds = k;
            like = L.find_same K c.path s.rows d k;
            top = leb-true _ _ t;
            tie = λ l. let z : j < length s.rows = inside (unbound 0) s.rows (bound d) j bound≢unbound k in omega arith;
          }))
      rival d k false t = holders_oust H s.rows G c e j d k (L.find_same K c.path s.rows d k) (leb-false _ _ t)

      meet : (r : Row Path) → at s.rows j ≡ r → Holders H (M.meet K s c j r).rows
      meet (unbound g) k = holders_more H s.rows G c e (λ i d u v. none g k (L.find_holds K c.path s.rows i (rw u v)))
      meet (bound d) k = rival d k (M.stands K d c) refl
