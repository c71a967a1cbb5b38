-- What may become of a row, so that no stale handle comes back (`Onward`), and so that each live one stays (`Steady`).
use Prim.Native.Nat.{ℕ, ◌≤◌, ◌<◌}
use native.Mathlib.Omega.{arith}
use native.Mathlib.Decide.{ℕ_discrete}
use mathlib.Core.Path.{◌≡◌, refl, sym, ap, subst, ◌∙◌}
use mathlib.Core.Logic.{◌⊎◌, inl, inr}
use mathlib.Core.Bool.{Bool, true, false, false≢true}
use mathlib.Core.List.{List, [], ◌∷◌, ◌++◌}
use lib.ListN.{length, set, length-set, length-append, get_or-append}
use lib.Seq.{get_or-set_same, get_or-set_other}
use borrow.Author.Tests.{lt-ltb, eq-eqb}
use Rattle.slot_rows.specs.Rows.{Row, none, at, is_bound, gen_of, resized}
use Rattle.slot_rows.proofs.InBuffers.{resized_bound, resized_gen}
use Rattle.inner_handle.specs.Handles.{is_live}
use Rattle.inner_handle.proofs.Stays.{live_means}

-- ---- a live handle

pub live_is : (slot generation : ℕ) (rs : List Row) → slot < length rs → is_bound (at rs slot) ≡ true → gen_of (at rs slot) ≡ generation
    → is_live slot generation rs ≡ true
unfolding is_live
live_is slot generation rs h b e = rw (lt-ltb slot (length rs) h, b, eq-eqb (gen_of (at rs slot)) generation e)

-- what is not live is stale
pub stale_is : (slot generation : ℕ) (rs : List Row) → (is_live slot generation rs ≡ true → ⊥) → is_live slot generation rs ≡ false
stale_is slot generation rs never = go (is_live slot generation rs) refl
  where
    go : (t : Bool) → is_live slot generation rs ≡ t → t ≡ false
    go true e = absurd (never e)
    go false e = refl

-- an unbound row; one of another generation; one that is as it was
pub unbound_stale : (slot generation : ℕ) (rs : List Row) → is_bound (at rs slot) ≡ false → is_live slot generation rs ≡ false
unbound_stale slot generation rs b = stale_is slot generation rs (λ live. false≢true (sym b ∙ (live_means slot generation rs live).1))

pub renewed_stale : (slot generation : ℕ) (rs : List Row) → (gen_of (at rs slot) ≡ generation → ⊥) → is_live slot generation rs ≡ false
renewed_stale slot generation rs ne = stale_is slot generation rs (λ live. ne (live_means slot generation rs live).2)

pub same_stale : (slot generation : ℕ) (rs ts : List Row) → length rs ≡ length ts → at ts slot ≡ at rs slot
    → is_live slot generation rs ≡ false → is_live slot generation ts ≡ false
unfolding is_live
same_stale slot generation rs ts n e h = rw (← n, e) h

-- ---- no stale handle comes back

-- Row r becomes t where the counter was c: unbound, or of the generation that it had, or of a new one.
abbrev pub Fate : ℕ → Row → Row → Type 0
Fate c r t = (is_bound t ≡ false) ⊎ (((is_bound t ≡ is_bound r) × (gen_of t ≡ gen_of r)) ⊎ (c ≤ gen_of t))

-- Rows rs under the counter c become ts under e: there may be more of them, and of the old ones each has such a fate.
pub record Onward (rs : List Row) (c : ℕ) (ts : List Row) (e : ℕ) : Type 0 where
  pub rows : length rs ≤ length ts
  pub counter : c ≤ e
  pub each : (j : ℕ) → j < length rs → Fate c (at rs j) (at ts j)

pub onward_same : (rs : List Row) (c e : ℕ) → c ≤ e → Onward rs c rs e
onward_same rs c e h = record { rows = omega arith; counter = h; each = λ j l. inr (inl (refl, refl)) }

pub onward_then : (rs ts us : List Row) (c e f : ℕ) → Onward rs c ts e → Onward ts e us f → Onward rs c us f
onward_then rs ts us c e f A B =
    record {
      rows = omega (arith, A.rows, B.rows);
      counter = omega (arith, A.counter, B.counter);
      each = λ j l. go j l (A.each j l) (B.each j (omega (arith, A.rows)));
    }
  where
    go : (j : ℕ) → j < length rs → Fate c (at rs j) (at ts j) → Fate e (at ts j) (at us j) → Fate c (at rs j) (at us j)
    go j l a (inl u) = inl u
    go j l (inl u) (inr (inl s)) = inl (s.0 ∙ u)
    go j l (inr (inl s)) (inr (inl t)) = inr (inl (t.0 ∙ s.0, t.1 ∙ s.1))
    go j l (inr (inr h)) (inr (inl t)) = inr (inr (omega (arith, t.1)))
    go j l a (inr (inr h)) = inr (inr (omega (arith, A.counter)))

-- a row is stored
pub onward_put : (rs ts : List Row) (c e i : ℕ) (r : Row) → Onward rs c ts e → Fate c (at rs i) r → Onward rs c (set ts i r) e
onward_put rs ts c e i r A f =
    record { rows = omega (arith, A.rows, length-set ts i r); counter = A.counter; each = λ j l. go j l (ℕ_discrete j i) }
  where
    go : (j : ℕ) → j < length rs → Dec (j ≡ i) → Fate c (at rs j) (at (set ts i r) j)
    go j l (yes e) =
        let q : at (set ts i r) j ≡ r = ap (at (set ts i r)) e ∙ get_or-set_same ts i r none (omega (arith, A.rows)) in
        subst (Fate c (at rs j)) (sym q) (subst (λ (k : ℕ). Fate c (at rs k) r) (sym e) f)
    go j l (no n) = subst (Fate c (at rs j)) (sym (get_or-set_other ts i j r none n)) (A.each j l)

-- one more row
pub onward_more : (rs ts : List Row) (c e f : ℕ) (r : Row) → Onward rs c ts e → e ≤ f → Onward rs c (ts ++ (r ∷ [])) f
onward_more rs ts c e f r A h =
    record {
      rows = omega (arith, A.rows, length-append ts (r ∷ []));
      counter = omega (arith, A.counter);
      each = λ j l. subst (Fate c (at rs j)) (sym (get_or-append ts (r ∷ []) none j (omega (arith, A.rows)))) (A.each j l);
    }

-- another length or dirty bit
pub resized_fate : (c n : ℕ) (d : Bool) (r : Row) → Fate c r (resized n d r)
resized_fate c n d r = inr (inl (resized_bound n d r, resized_gen n d r))

-- So a handle of one of the rows, of a generation below the counter, that is stale stays stale.
pub onward_stale : (rs ts : List Row) (c e slot generation : ℕ) → Onward rs c ts e → slot < length rs → generation < c
    → is_live slot generation rs ≡ false → is_live slot generation ts ≡ false
onward_stale rs ts c e slot generation A h k stale =
    stale_is slot generation ts (λ live. go (live_means slot generation ts live) (A.each slot h))
  where
    go : (slot < length ts) × (is_bound (at ts slot) ≡ true) × (gen_of (at ts slot) ≡ generation) → Fate c (at rs slot) (at ts slot) → ⊥
    go m (inl u) = false≢true (sym u ∙ m.1)
    go m (inr (inl s)) = false≢true (sym stale ∙ live_is slot generation rs h (sym s.0 ∙ m.1) (sym s.1 ∙ m.2))
    go m (inr (inr q)) = omega (arith, m.2)

-- ---- each live handle stays

-- Row r is bound, and so is t, under the same generation.
abbrev pub Lasts : Row → Row → Type 0
Lasts r t = is_bound r ≡ true → (is_bound t ≡ true) × (gen_of t ≡ gen_of r)

pub record Steady (rs ts : List Row) : Type 0 where
  pub rows : length rs ≤ length ts
  pub each : (j : ℕ) → j < length rs → Lasts (at rs j) (at ts j)

pub steady_same : (rs : List Row) → Steady rs rs
steady_same rs = record { rows = omega arith; each = λ j l b. (b, refl) }

pub steady_put : (rs : List Row) (i : ℕ) (r : Row) → Lasts (at rs i) r → Steady rs (set rs i r)
steady_put rs i r f = record { rows = omega (arith, length-set rs i r); each = λ j l. go j l (ℕ_discrete j i) }
  where
    go : (j : ℕ) → j < length rs → Dec (j ≡ i) → Lasts (at rs j) (at (set rs i r) j)
    go j l (yes e) =
        let q : at (set rs i r) j ≡ r = ap (at (set rs i r)) e ∙ get_or-set_same rs i r none (omega arith) in
        subst (Lasts (at rs j)) (sym q) (subst (λ (k : ℕ). Lasts (at rs k) r) (sym e) f)
    go j l (no n) = subst (Lasts (at rs j)) (sym (get_or-set_other rs i j r none n)) (λ b. (b, refl))

pub resized_lasts : (n : ℕ) (d : Bool) (r : Row) → Lasts r (resized n d r)
resized_lasts n d r b = (resized_bound n d r ∙ b, resized_gen n d r)

pub steady_live : (rs ts : List Row) (slot generation : ℕ) → Steady rs ts → is_live slot generation rs ≡ true
    → is_live slot generation ts ≡ true
steady_live rs ts slot generation S live =
    let m = live_means slot generation rs live in
    let t = S.each slot m.0 m.1 in
    live_is slot generation ts (omega (arith, m.0, S.rows)) t.0 (t.1 ∙ m.2)
