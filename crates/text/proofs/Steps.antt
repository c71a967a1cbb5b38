-- Why the test decides the grammar: what is due behind each first byte, what a walk that ends between two characters has read,
-- and where a text leads. Grammar.antt has the two theorems that follow. Assumes nothing.
use Rattle.std.specs.Prelude.{ℕ, zero, suc, ◌-◌, ◌≤◌, ◌≡◌, refl, List, [], ◌∷◌, ◌++◌, Bool, true, false, cond, eqb, ltb, leb}
use Rattle.std.proofs.Common.{sym, subst, ◌∙◌, arith, lt-ltb, le-ltb, le-leb, ne_eqb, ltb-true, ltb-false, leb-true, leb-false, eqb-true}
use Rattle.std.proofs.Math.Dec.{eqb-suc-zero}
use Rattle.std.proofs.lemmas.Bool.{lt-leb, eqb-false}
use Rattle.text.specs.declared.Due.{Due}
use Rattle.text.specs.Text.{In, Tail, Character, utf8_1, utf8_2, utf8_3a, utf8_3b, utf8_3c, utf8_3d, utf8_4a, utf8_4b, utf8_4c, Text, none, more, owed, between, never, lead_of, lead_of3, lead_of4, step_of, walk_of}

-- ---- what is due behind a first byte

pub lead_1 : (a : ℕ) → In 0x00 0x7F a → lead_of a ≡ between
unfolding lead_of
lead_1 a h = simp (le-leb a 0x7F (omega arith))

pub lead_none : (a : ℕ) → In 0x80 0xC1 a → lead_of a ≡ never
unfolding lead_of
lead_none a h = simp (lt-leb a 0x7F (omega arith), lt-ltb a 0xC2 (omega arith))

pub lead_2 : (a : ℕ) → In 0xC2 0xDF a → lead_of a ≡ owed 1 0x80 0xBF
unfolding lead_of
lead_2 a h = simp (lt-leb a 0x7F (omega arith), le-ltb a 0xC2 (omega arith), le-leb a 0xDF (omega arith))

pub lead_3 : (a : ℕ) → In 0xE0 0xEF a → lead_of a ≡ lead_of3 a
unfolding lead_of
lead_3 a h = simp (lt-leb a 0x7F (omega arith), le-ltb a 0xC2 (omega arith), lt-leb a 0xDF (omega arith), le-leb a 0xEF (omega arith))

pub lead_4 : (a : ℕ) → 0xF0 ≤ a → lead_of a ≡ lead_of4 a
unfolding lead_of
lead_4 a h = simp (lt-leb a 0x7F (omega arith), le-ltb a 0xC2 (omega arith), lt-leb a 0xDF (omega arith), lt-leb a 0xEF (omega arith))

-- ---- what the test lets pass is text

-- n bytes are there, the first in lo..hi and the others tails, and text follows.
abbrev pub Paid : ℕ → ℕ → ℕ → List ℕ → Type 0
Paid zero lo hi s = Text s
Paid (suc n) lo hi [] = ⊥
Paid (suc n) lo hi (b ∷ s) = In lo hi b × Paid n 0x80 0xBF s

abbrev pub Pays : Due → List ℕ → Type 0
Pays d s = Paid d.left d.lo d.hi s

nobody_pays_never : (s : List ℕ) → Pays never s → ⊥
nobody_pays_never [] o = o
nobody_pays_never (b ∷ s) o = omega arith

two : (a : ℕ) (s : List ℕ) → In 0xC2 0xDF a → Paid 1 0x80 0xBF s → Text (a ∷ s)
two a [] h o = absurd o
two a (b ∷ s) h o = more (utf8_2 h o.0) o.1

three : (a lo hi : ℕ) (s : List ℕ) → ((b c : ℕ) → In lo hi b → Tail c → Character (a ∷ b ∷ c ∷ [])) → Paid 2 lo hi s → Text (a ∷ s)
three a lo hi [] row o = absurd o
three a lo hi (b ∷ []) row o = absurd o.1
three a lo hi (b ∷ c ∷ s) row o = more (row b c o.0 o.1.0) o.1.1

four : (a lo hi : ℕ) (s : List ℕ) → ((b c d : ℕ) → In lo hi b → Tail c → Tail d → Character (a ∷ b ∷ c ∷ d ∷ [])) → Paid 3 lo hi s → Text (a ∷ s)
four a lo hi [] row o = absurd o
four a lo hi (b ∷ []) row o = absurd o.1
four a lo hi (b ∷ c ∷ []) row o = absurd o.1.1
four a lo hi (b ∷ c ∷ d ∷ s) row o = more (row b c d o.0 o.1.0 o.1.1.0) o.1.1.1

-- a property of both arms is one of the choice
either : (P : Due → Type 0) (e : Bool) (x y : Due) → (e ≡ true → P x) → (e ≡ false → P y) → P (cond e x y)
either P true x y f g = f refl
either P false x y f g = g refl

ruleset tests = (leb-true, leb-false, ltb-true, ltb-false, eqb-true, eqb-false)

-- what holds behind the byte k holds behind a byte that equals it
is_byte : (a k : ℕ) (s : List ℕ) → eqb a k ≡ true → Text (k ∷ s) → Text (a ∷ s)
is_byte a k s e t = subst (λ (x : ℕ). Text (x ∷ s)) (sym (eqb-true a k e)) t

-- UTF8-3 but for E0 and ED
plain_three : (a b c : ℕ) → In 0xE0 0xEF a → eqb a 0xE0 ≡ false → eqb a 0xED ≡ false → Tail b → Tail c → Character (a ∷ b ∷ c ∷ [])
plain_three a b c h e₁ e₂ p q = go (leb a 0xEC) refl
  where
    go : (e : Bool) → leb a 0xEC ≡ e → Character (a ∷ b ∷ c ∷ [])
    go true e = utf8_3b {a = a} (omega (arith, tests)) p q
    go false e = utf8_3d {a = a} (omega (arith, tests)) p q

lead3_sound : (a : ℕ) (s : List ℕ) → In 0xE0 0xEF a → Pays (lead_of3 a) s → Text (a ∷ s)
unfolding lead_of3
lead3_sound a s i =
    let P : Due → Type 0 = λ d. Pays d s → Text (a ∷ s) in
    either P (eqb a 0xE0) _ _ (λ h o. is_byte a 0xE0 s h (three 0xE0 0xA0 0xBF s (λ b c p q. utf8_3a p q) o)) λ h₁.
    either P (eqb a 0xED) _ _ (λ h o. is_byte a 0xED s h (three 0xED 0x80 0x9F s (λ b c p q. utf8_3c p q) o)) λ h₂.
    three a 0x80 0xBF s (λ b c. plain_three a b c i h₁ h₂)

lead4_sound : (a : ℕ) (s : List ℕ) → 0xF0 ≤ a → Pays (lead_of4 a) s → Text (a ∷ s)
unfolding lead_of4
lead4_sound a s i =
    let P : Due → Type 0 = λ d. Pays d s → Text (a ∷ s) in
    either P (eqb a 0xF0) _ _ (λ h o. is_byte a 0xF0 s h (four 0xF0 0x90 0xBF s (λ b c d p q r. utf8_4a p q r) o)) λ h₁.
    either P (leb a 0xF3) _ _ (λ h. four a 0x80 0xBF s (λ b c d p q r. utf8_4b (omega (arith, tests)) p q r)) λ h₂.
    either P (eqb a 0xF4) _ _ (λ h o. is_byte a 0xF4 s h (four 0xF4 0x80 0x8F s (λ b c d p q r. utf8_4c p q r) o)) λ h₃ o.
    absurd (nobody_pays_never s o)

lead_sound : (a : ℕ) (s : List ℕ) → Pays (lead_of a) s → Text (a ∷ s)
unfolding lead_of
lead_sound a s =
    let P : Due → Type 0 = λ d. Pays d s → Text (a ∷ s) in
    either P (leb a 0x7F) _ _ (λ h o. more (utf8_1 (omega (arith, tests))) o) λ h₁.
    either P (ltb a 0xC2) _ _ (λ h o. absurd (nobody_pays_never s o)) λ h₂.
    either P (leb a 0xDF) _ _ (λ h. two a s (omega (arith, tests))) λ h₃.
    either P (leb a 0xEF) _ _ (λ h. lead3_sound a s (omega (arith, tests))) λ h₄.
    lead4_sound a s (omega (arith, tests))

tail_sound : (n lo hi b : ℕ) (s : List ℕ) → Pays (cond (ltb b lo) never (cond (ltb hi b) never (owed n 0x80 0xBF))) s → In lo hi b × Paid n 0x80 0xBF s
tail_sound n lo hi b s =
    let P : Due → Type 0 = λ d. Pays d s → In lo hi b × Paid n 0x80 0xBF s in
    either P (ltb b lo) _ _ (λ h o. absurd (nobody_pays_never s o)) λ h₁.
    either P (ltb hi b) _ _ (λ h o. absurd (nobody_pays_never s o)) λ h₂ o. (omega (arith, tests), o)

step_sound : (n lo hi b : ℕ) (s : List ℕ) → Pays (step_of (owed n lo hi) b) s → Paid n lo hi (b ∷ s)
unfolding step_of
step_sound zero lo hi b s o = lead_sound b s o
step_sound (suc n) lo hi b s o =
    let m : suc n - 1 ≡ n = omega arith in
    tail_sound n lo hi b s (rw (eqb-suc-zero n, m) at o)

end_sound : (n lo hi : ℕ) → n ≡ 0 → Paid n lo hi []
end_sound zero lo hi e = none
end_sound (suc n) lo hi e = absurd (omega arith)

-- what the test lets pass from d on pays what is due there
pub walk_sound : (s : List ℕ) (d : Due) → (walk_of d s).left ≡ 0 → Pays d s
unfolding walk_of
walk_sound [] d e = end_sound d.left d.lo d.hi e
walk_sound (b ∷ s) d e = step_sound d.left d.lo d.hi b s (walk_sound s (step_of d b) e)

-- ---- text passes the test

-- one byte behind the first
tail_step : (n lo hi b : ℕ) → In lo hi b → step_of (owed (suc n) lo hi) b ≡ owed n 0x80 0xBF
unfolding step_of
tail_step n lo hi b h =
    let m : suc n - 1 ≡ n = omega arith in
    rw (eqb-suc-zero n, le-ltb b lo h.0, le-ltb hi b h.1, m)

first_step : (b : ℕ) → step_of between b ≡ lead_of b
unfolding step_of
first_step b = refl

walk_1 : (a : ℕ) (s : List ℕ) → lead_of a ≡ between → walk_of between (a ∷ s) ≡ walk_of between s
unfolding walk_of
walk_1 a s e = rw (first_step a, e)

walk_2 : (a b : ℕ) (s : List ℕ) → lead_of a ≡ owed 1 0x80 0xBF → Tail b → walk_of between (a ∷ b ∷ s) ≡ walk_of between s
unfolding walk_of
walk_2 a b s e h = rw (first_step a, e, tail_step 0 0x80 0xBF b h)

walk_3 : (a b c lo hi : ℕ) (s : List ℕ) → lead_of a ≡ owed 2 lo hi → In lo hi b → Tail c → walk_of between (a ∷ b ∷ c ∷ s) ≡ walk_of between s
unfolding walk_of
walk_3 a b c lo hi s e h k = rw (first_step a, e, tail_step 1 lo hi b h, tail_step 0 0x80 0xBF c k)

walk_4 : (a b c d lo hi : ℕ) (s : List ℕ) → lead_of a ≡ owed 3 lo hi → In lo hi b → Tail c → Tail d → walk_of between (a ∷ b ∷ c ∷ d ∷ s) ≡ walk_of between s
unfolding walk_of
walk_4 a b c d lo hi s e h k m = rw (first_step a, e, tail_step 2 lo hi b h, tail_step 1 0x80 0xBF c k, tail_step 0 0x80 0xBF d m)

-- the rows of UTF8-3 and UTF8-4 that name no single first byte
plain_3 : (a : ℕ) → In 0xE0 0xEF a → (a ≡ 0xE0 → ⊥) → (a ≡ 0xED → ⊥) → lead_of a ≡ owed 2 0x80 0xBF
unfolding lead_of3
plain_3 a h m n = lead_3 a h ∙ simp (ne_eqb a 0xE0 m, ne_eqb a 0xED n)

plain_4 : (a : ℕ) → In 0xF1 0xF3 a → lead_of a ≡ owed 3 0x80 0xBF
unfolding lead_of4
plain_4 a h = lead_4 a (omega arith) ∙ simp (ne_eqb a 0xF0 (λ e. omega arith), le-leb a 0xF3 (omega arith))

-- a whole character leads from between to between
character_walk : {a : List ℕ} (s : List ℕ) → Character a → walk_of between (a ++ s) ≡ walk_of between s
unfolding lead_of lead_of3 lead_of4
character_walk s (utf8_1 {a = a} h) = walk_1 a s (lead_1 a h)
character_walk s (utf8_2 {a = a} {b = b} h p) = walk_2 a b s (lead_2 a h) p
character_walk s (utf8_3a {b = b} {c = c} p q) = walk_3 0xE0 b c 0xA0 0xBF s refl p q
character_walk s (utf8_3b {a = a} {b = b} {c = c} h p q) = walk_3 a b c 0x80 0xBF s (plain_3 a (omega arith) (λ e. omega arith) (λ e. omega arith)) p q
character_walk s (utf8_3c {b = b} {c = c} p q) = walk_3 0xED b c 0x80 0x9F s refl p q
character_walk s (utf8_3d {a = a} {b = b} {c = c} h p q) = walk_3 a b c 0x80 0xBF s (plain_3 a (omega arith) (λ e. omega arith) (λ e. omega arith)) p q
character_walk s (utf8_4a {b = b} {c = c} {d = d} p q r) = walk_4 0xF0 b c d 0x90 0xBF s refl p q r
character_walk s (utf8_4b {a = a} {b = b} {c = c} {d = d} h p q r) = walk_4 a b c d 0x80 0xBF s (plain_4 a h) p q r
character_walk s (utf8_4c {b = b} {c = c} {d = d} p q r) = walk_4 0xF4 b c d 0x80 0x8F s refl p q r

-- text leads from between to between
pub text_walk : {s : List ℕ} → Text s → walk_of between s ≡ between
unfolding walk_of
text_walk none = refl
text_walk (more {s = s} c t) = character_walk s c ∙ text_walk t
