-- The winner rule: the holders of the first n headers are their best claims (`Best`), and every claimed path has one.
use Prim.Native.Nat.{ℕ, ◌≤◌, ◌<◌}
use native.Mathlib.Omega.{arith}
use native.Mathlib.Decide.{ℕ_discrete, dec_lt}
use mathlib.Core.Path.{◌≡◌, refl, sym, ◌∙◌}
use mathlib.Core.Logic.{◌≢◌, ◌⊎◌, inl, inr, ◌↔◌}
use mathlib.Core.Bool.{true, false, false≢true}
use mathlib.Core.List.{List}
use lib.ListN.{length}
use Rattle.promises_model.specs.Model.{Claim, Head, claim, Row, unbound, bound, Kit}
use Rattle.promises_model.specs.Model as M
use Rattle.promises_model.specs.Best.{Best, Rule}
use Rattle.promises_model.proofs.Loops as L
use Rattle.promises_model.proofs.Loops.{bound≢unbound}
use Rattle.promises_model.proofs.Rows.{inside}
use Rattle.promises_model.proofs.Invariant.{Held, Holders}

module _ (K : Kit) where
  open K use {Path, same, same_sym, same_trans}

  abbrev at : List (Row Path) → ℕ → Row Path
  at = M.row_at K

  below : (rs : List (Row Path)) (i : ℕ) (c : Claim Path) → at rs i ≡ bound c → i < length rs
  below rs i c h = inside (unbound 0) rs (bound c) i bound≢unbound h

  module _ {H : ℕ → Head Path} {rs : List (Row Path)} (G : Holders K H rs) where
    -- a holder is the best claim of its path
    pub bound_best : (i : ℕ) (c : Claim Path) → at rs i ≡ bound c → Best K H (length rs) i c
    bound_best i c h =
        record {
          among = below rs i c h;
          claims = G.sound i c h;
          over = λ j e l ne k like. beaten j e ne like (G.held j e l k);
        }
      where
        beaten : (j : ℕ) (e : Claim Path) → j ≢ i → same c.path e.path ≡ true → Held K rs j e → (e.gen < c.gen) ⊎ ((e.gen ≡ c.gen) × (i < j))
        beaten j e ne like t =
            let p : i ≡ t.slot = G.uniq i t.slot c t.by h t.holds (same_trans _ _ _ like t.like) in
            let q : c ≡ t.by = cc in
            let r : c.gen ≡ t.by.gen = cc in
            by_gen (omega (arith, t.top)) (λ l. omega (arith, t.tie (omega arith))) (dec_lt e.gen c.gen) (dec_lt i j)
          where
            by_gen : e.gen ≤ c.gen → (j < i → e.gen < c.gen) → Dec (e.gen < c.gen) → Dec (i < j) → (e.gen < c.gen) ⊎ ((e.gen ≡ c.gen) × (i < j))
            by_gen le tie (yes l) d = inl l
            by_gen le tie (no l) (yes d) = inr (omega arith, d)
            by_gen le tie (no l) (no d) = inl (tie (omega (arith, ne)))

    -- the best claim of a path is its holder
    pub best_bound : (i : ℕ) (c : Claim Path) → Best K H (length rs) i c → at rs i ≡ bound c
    best_bound i c b = go (G.held i c b.among b.claims)
      where
        go : Held K rs i c → at rs i ≡ bound c
        go t = here (ℕ_discrete t.slot i)
          where
            other : t.slot ≢ i → (t.by.gen < c.gen) ⊎ ((t.by.gen ≡ c.gen) × (i < t.slot)) → ⊥
            other ne (inl l) = omega (arith, t.top)
            other ne (inr l) = omega (arith, t.tie l.1)

            here : Dec (t.slot ≡ i) → at rs i ≡ bound c
            here (yes p) = let k : H t.slot ≡ claim t.by = G.sound _ _ t.holds in let q : H i ≡ claim c = b.claims in let r : c ≡ t.by = cc in cc
            here (no p) = absurd (other p (b.over t.slot t.by (below rs t.slot t.by t.holds) p (G.sound _ _ t.holds) t.like))

    -- a row that holds a path equal to p is where the search comes to
    find_holder : (p : Path) (i : ℕ) (c : Claim Path) → at rs i ≡ bound c → same p c.path ≡ true → M.find K p rs ≡ i
    find_holder p i c h like = go (at rs (M.find K p rs)) refl (L.find_holds K p rs i (rw h like))
      where
        go : (r : Row Path) → at rs (M.find K p rs) ≡ r → M.holds K p (at rs (M.find K p rs)) ≡ true → M.find K p rs ≡ i
        go (unbound g) e k = absurd (false≢true (rw e at k))
        go (bound d) e k = G.uniq _ i d c e h (same_trans _ _ _ (same_sym _ _ (L.find_same K p rs d e)) like)

    pub rule : (n : ℕ) → length rs ≡ n → Rule K H n rs
    rule n e =
        record {
          size = e;
          holder = λ i c. (λ h. rw e at (bound_best i c h), λ b. best_bound i c (rw e b));
          claimed = λ p j c l h like. claimed p j c like (G.held j c (omega arith) h);
          unclaimed = λ p no_claim. L.find_none K p rs (λ j l. unheld p no_claim j (at rs j) refl) ∙ e;
        }
      where
        claimed : (p : Path) (j : ℕ) (e : Claim Path) → same p e.path ≡ true → Held K rs j e
            → (c : Claim Path) × (same p c.path ≡ true) × Best K H n (M.find K p rs) c
        claimed p j f like t =
            let u : same p t.by.path ≡ true = same_trans _ _ _ like t.like in
            let k : M.find K p rs ≡ t.slot = find_holder p t.slot t.by t.holds u in
            (t.by, u, rw k (rw e at (bound_best t.slot t.by t.holds)))

        unheld : (p : Path) → ((j : ℕ) (e : Claim Path) → j < n → H j ≡ claim e → same p e.path ≡ false) → (j : ℕ) (r : Row Path) → at rs j ≡ r → M.holds K p (at rs j) ≡ false
        unheld p no_claim j (unbound g) h = rw h
        unheld p no_claim j (bound c) h = rw h (no_claim j c (omega (arith, below rs j c h)) (G.sound j c h))

  -- two answers of the same headers hold the same
  pub holders_agree : {H : ℕ → Head Path} (rs ts : List (Row Path)) → length rs ≡ length ts → Holders K H rs → Holders K H ts
      → (i : ℕ) (c : Claim Path) → at rs i ≡ bound c ↔ at ts i ≡ bound c
  holders_agree rs ts n F G i c = (λ h. best_bound G i c (rw n at (bound_best F i c h)), λ h. best_bound F i c (rw (sym n) at (bound_best G i c h)))

  -- only the headers of the rows count
  pub holders_heads : {H J : ℕ → Head Path} (rs : List (Row Path)) → ((i : ℕ) → i < length rs → H i ≡ J i) → Holders K H rs → Holders K J rs
  holders_heads rs e G =
      record {
        sound = λ i c h. sym (e i (below rs i c h)) ∙ G.sound i c h;
        uniq = G.uniq;
        held = λ m c l h. G.held m c l (e m l ∙ h);
      }
