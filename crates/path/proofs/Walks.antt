-- Laws of the walk from the front.
use Rattle.std.specs.Prelude.{None, Option, Some}
use Rattle.std.proofs.Common.{◌≡◌, ℕ, zero, suc, ◌+◌, ◌-◌, ◌<◌, ◌≤◌, Bool, true, false, cond, eqb, List, [], ◌∷◌, length, get_or, take, drop, sym, refl, ap, ◌∙◌, add-one, arith, length-drop, drop_of_length-le, length-take-le, drop-cons, drop-drop, eq-eqb, ne_eqb, take_all}
use Rattle.path.specs.Path.{idle, names, split, components, is_root}
use Rattle.path.specs.declared.Part.{Part}
use Rattle.path.specs.Walk.{run, rest, left, Next, NextOf, NextName, NameOf}
use Rattle.path.proofs.Parts.{rest_step, rest_slash, rest_nil, rest_named, components_step, formed, named_formed, Formed}

-- ---- the run to the next slash

pub run_other : (l : List ℕ) (i : ℕ) → i < length l → (get_or l i 0 ≡ 47 → ⊥) → run (drop i l) ≡ suc (run (drop (i + 1) l))
unfolding run
run_other l i h e = rw (add-one, drop-cons l i 0 h, ne_eqb _ _ e)

-- the run is known by what stands before its end and what stands there
run_is : (t : List ℕ) (k : ℕ) → k ≤ length t → ((j : ℕ) → j < k → get_or t j 0 ≡ 47 → ⊥) → (k < length t → get_or t k 0 ≡ 47) → k ≡ run t
unfolding run
run_is [] k h f g = omega arith
run_is (b ∷ t) zero h f g = rw (eq-eqb b 47 (g (omega arith)))
run_is (b ∷ t) (suc k) h f g = rw (ne_eqb b 47 (f 0 (omega arith))) (ap suc (run_is t k (omega arith) (λ j l. f (suc j) (omega arith)) (λ l. g (omega arith))))

-- the same of what is left of a text, which was lent
module _ (l : List ℕ) (i : ℕ) (h : i ≤ length l) where
  abbrev lent : List ℕ
  lent = take (length l - i) (drop i l)

  same_rest : lent ≡ drop i l
  same_rest = take_all (length l - i) (drop i l) (rw length-drop (omega arith))

  pub run_none : ((j : ℕ) → j < length lent → get_or lent j 0 ≡ 47 → ⊥) → length l ≡ i + run (drop i l)
  run_none f =
      let e : length lent ≡ length l - i = ap length same_rest ∙ length-drop i l in
      omega (arith, run_is lent (length lent) (omega arith) f (λ k. absurd (omega arith)) ∙ ap run same_rest)

  pub run_some : (k : ℕ) → k < length lent → ((j : ℕ) → j < k → get_or lent j 0 ≡ 47 → ⊥) → get_or lent k 0 ≡ 47 → i + k ≡ i + run (drop i l)
  run_some k n f g = ap (λ (m : ℕ). i + m) (run_is lent k (omega arith) f (λ m. g) ∙ ap run same_rest)

-- a part that begins with another byte than a slash is not empty
pub part_some : (l : List ℕ) (i e : ℕ) → i < length l → (get_or l i 0 ≡ 47 → ⊥) → e ≡ i + run (drop i l) → i < e
part_some l i e h n q = omega (arith, run_other l i h n)

-- ---- the parts behind a place

rest_end : (l : List ℕ) (i : ℕ) → length l ≤ i → rest (drop i l) ≡ []
rest_end l i h = rw (drop_of_length-le l h) rest_nil

pub rest_slash_at : (l : List ℕ) (i : ℕ) → i < length l → get_or l i 0 ≡ 47 → rest (drop i l) ≡ rest (drop (i + 1) l)
rest_slash_at l i h e = rw (add-one, drop-cons l i 0 h) (rest_slash (get_or l i 0) (drop (suc i) l) (eq-eqb _ _ e))

step_at : (l : List ℕ) (i e : ℕ) (t : Bool) → e ≡ i + run (drop i l) → idle (take (e - i) (drop i l)) ≡ t
    → rest (drop i l) ≡ cond t (rest (drop e l)) (take (e - i) (drop i l) ∷ rest (drop e l))
step_at l i e t h n =
    let r : run (drop i l) ≡ e - i = omega arith in
    let q : drop (e - i) (drop i l) ≡ drop e l = let k : i + (e - i) ≡ e = omega arith in drop-drop (e - i) i l ∙ ap (λ (n : ℕ). drop n l) k in
    rw (r, q, n) at (rest_step (drop i l))

-- a part of one byte is that byte
one_byte : (l : List ℕ) (i e : ℕ) → i < length l → e ≡ i + 1 → take (e - i) (drop i l) ≡ get_or l i 0 ∷ []
one_byte l i e h q =
    let o : e - i ≡ suc 0 = omega arith in
    rw (o, drop-cons l i 0 h)

-- a part of one byte is dropped just if it is a `.`
pub idle_dot : (l : List ℕ) (i e : ℕ) → i < length l → e ≡ i + 1 → get_or l i 0 ≡ 46 → idle (take (e - i) (drop i l)) ≡ true
unfolding idle
idle_dot l i e h o d = rw (one_byte l i e h o, eq-eqb _ _ d)

pub idle_byte : (l : List ℕ) (i e : ℕ) → i < length l → e ≡ i + 1 → (get_or l i 0 ≡ 46 → ⊥) → idle (take (e - i) (drop i l)) ≡ false
unfolding idle
idle_byte l i e h o d = rw (one_byte l i e h o, ne_eqb _ _ d)

-- a longer one stays
idle_two : (p : List ℕ) → 2 ≤ length p → idle p ≡ false
unfolding idle
idle_two [] h = absurd (omega arith)
idle_two (b ∷ []) h = absurd (omega arith)
idle_two (b ∷ c ∷ p) h = refl

pub idle_long : (l : List ℕ) (i e : ℕ) → i < e → e ≤ length l → (e ≡ i + 1 → ⊥) → idle (take (e - i) (drop i l)) ≡ false
idle_long l i e b f o =
    let d : length (drop i l) ≡ length l - i = length-drop i l in
    let n : length (take (e - i) (drop i l)) ≡ e - i = length-take-le (e - i) (drop i l) (omega arith) in
    idle_two (take (e - i) (drop i l)) (omega arith)

pub rest_dot : (l : List ℕ) (i e : ℕ) → i < length l → e ≡ i + run (drop i l) → e ≡ i + 1 → get_or l i 0 ≡ 46 → rest (drop i l) ≡ rest (drop e l)
rest_dot l i e h q o d = step_at l i e true q (idle_dot l i e h o d)

-- ---- the next component

pub name_some : (s : List ℕ) (i a e : ℕ) → i ≤ a → a < e → e ≤ length s → rest (drop i s) ≡ rest (drop a s)
    → e ≡ a + run (drop a s) → idle (take (e - a) (drop a s)) ≡ false → NextName s i a e
name_some s i a e o h f p r n = record { onward = o; some = h; inside = f; gives = p ∙ step_at s a e false r n }

pub name_none : (s : List ℕ) (i a : ℕ) → length s ≤ a → rest (drop i s) ≡ rest (drop a s) → rest (drop i s) ≡ []
name_none s i a h p = p ∙ rest_end s a h

pub left_front : (s : List ℕ) → left s 0 ≡ components s
unfolding left
left_front s = refl

left_behind : (s : List ℕ) (i : ℕ) → 0 < i → left s i ≡ rest (drop i s)
unfolding left
left_behind s i h = rw (ne_eqb i 0 (omega arith))

-- what is left has the form of components
pub left_formed : (s : List ℕ) (i : ℕ) → Formed (left s i)
unfolding left
left_formed s i = go (eqb i 0)
  where
    go : (t : Bool) → Formed (cond t (components s) (rest (drop i s)))
    go true = formed s
    go false = named_formed (rest (drop i s)) (rest_named (drop i s))

pub next_behind : (s : List ℕ) (i : ℕ) (r : Option Part) → 0 < i → NameOf s i r → NextOf s i r
next_behind s i None h n = left_behind s i h ∙ n
next_behind s i (Some p) h n =
    record { onward = n.onward; some = n.some; inside = n.inside; gives = rw (left_behind s i h, left_behind s p.stop (omega (arith, n.onward, n.some))) n.gives }

pub next_empty : (s : List ℕ) → length s ≡ 0 → left s 0 ≡ []
unfolding left components
next_empty [] h = refl
next_empty (b ∷ t) h = absurd (omega arith)

pub next_root : (s : List ℕ) → 0 < length s → get_or s 0 0 ≡ 47 → Next s 0 0 1
unfolding left components rest
next_root [] h e = absurd (omega arith)
next_root (b ∷ t) h e =
    record { onward = omega arith; some = omega arith; inside = omega arith; gives = rw (eq-eqb b 47 e) (ap (λ (x : ℕ). (x ∷ []) ∷ names (split t)) (sym e)) }

pub next_first : (s : List ℕ) (e : ℕ) → 0 < length s → (get_or s 0 0 ≡ 47 → ⊥) → e ≡ 0 + run (drop 0 s) → e ≤ length s → Next s 0 0 e
next_first [] e h n q f = absurd (omega arith)
next_first (b ∷ t) e h n q f =
    let p : 0 < e = part_some (b ∷ t) 0 e h n q in
    let r : run (b ∷ t) ≡ e = omega arith in
    let z : e - 0 ≡ e = omega arith in
    record {
      onward = omega arith;
      some = p;
      inside = f;
      gives = left_front (b ∷ t) ∙ rw (left_behind (b ∷ t) e p, z, ← r) (components_step b t (ne_eqb b 47 n));
    }

-- the component from a to e is the root just if it begins with a slash
pub root_at : (s : List ℕ) (a e : ℕ) → a < e → a < length s → is_root (take (e - a) (drop a s)) ≡ eqb (get_or s a 0) 47
unfolding is_root
root_at s a e h k =
    let q : e - a ≡ suc (e - a - 1) = omega arith in
    rw (q, drop-cons s a 0 k)
