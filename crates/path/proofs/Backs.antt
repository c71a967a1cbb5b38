-- Laws of the walk from the back.
use Rattle.std.specs.Prelude.{None, Option, Some}
use Rattle.std.specs.Option.{is_some}
use mathlib.Core.Bool.{false≢true}
use Rattle.std.proofs.Common.{◌≡◌, ℕ, zero, suc, ◌+◌, ◌-◌, ◌<◌, ◌≤◌, Bool, true, false, cond, not, ◌⊎◌, List, [], ◌∷◌, ◌++◌, length, get_or, take, drop, sym, refl, ap, ◌∙◌, subst, inl, inr, ⊎_elim, append_assoc, append-nil, arith, length-append, take-append-drop, length-take, length-drop, length-take-le, take-suc, take-take, take-add, eq-eqb, ne_eqb}
use lib.Seq.{get_or-drop}
use Rattle.std.proofs.lemmas.List.{get_or-take}
use Rattle.le.proofs.Parts.{part_append}
use Rattle.lists.specs.Fronts.{drop_take}
use Rattle.lists.specs.Same.{same, same_bytes, same_snoc, same_length}
use Rattle.path.specs.Path.{idle, names, split, components, same_path}
use Rattle.path.specs.declared.Part.{Part}
use Rattle.path.specs.Walk.{rest, Free, Starts, Last, LastOf}
use Rattle.path.proofs.Parts.{components_append, components_one, rest_one, rest_nil, split_one}

-- ---- the start of a part

free_is : (t : List ℕ) → ((k : ℕ) → k < length t → get_or t k 0 ≡ 47 → ⊥) → Free t
free_is [] f = tt
free_is (b ∷ t) f = (ne_eqb b 47 (f 0 (omega arith)), free_is t (λ k h. f (suc k) (omega arith)))

pub starts_front : (s : List ℕ) (e : ℕ) → ((k : ℕ) → k < length (take e s) → get_or (take e s) k 0 ≡ 47 → ⊥) → Starts s e 0
starts_front s e f = record { inside = omega arith; free = let z : e - 0 ≡ e = omega arith in rw z (free_is (take e s) f); edge = inl refl }

pub starts_behind : (s : List ℕ) (e k : ℕ) → k < length (take e s) → get_or (take e s) k 0 ≡ 47 → ((j : ℕ) → k < j → j < length (take e s) → get_or (take e s) j 0 ≡ 47 → ⊥)
    → Starts s e (k + 1)
starts_behind s e k h g f =
    let n : k < e = omega (arith, length-take e s) in
    record {
      inside = omega arith;
      free = rw (← drop_take (k + 1) e s) (free_is (drop (k + 1) (take e s))
          (λ j l. rw get_or-drop (f (k + 1 + j) (omega arith) (omega (arith, length-drop (k + 1) (take e s))))));
      edge = inr (let z : k + 1 - 1 ≡ k = omega arith in rw z (sym (get_or-take e s k 0 n) ∙ g));
    }

-- a part that ends with another byte than a slash is not empty
pub starts_some : (s : List ℕ) (e a : ℕ) → Starts s e a → 0 < e → (get_or s (e - 1) 0 ≡ 47 → ⊥) → a < e
starts_some s e a w p n = go w.edge
  where
    go : (a ≡ 0) ⊎ (get_or s (a - 1) 0 ≡ 47) → a < e
    go (inl z) = omega arith
    go (inr q) = lt (e - a) refl
      where
        lt : (k : ℕ) → e - a ≡ k → a < e
        lt zero z = absurd (n (subst (λ (m : ℕ). get_or s (m - 1) 0 ≡ 47) (omega (arith, w.inside)) q))
        lt (suc k) z = omega arith

-- ---- fronts of a text

-- a front and the part behind it
front_part : (s : List ℕ) (a e : ℕ) → a ≤ e → take e s ≡ take a s ++ take (e - a) (drop a s)
front_part s a e h = let k : e ≡ a + (e - a) = omega arith in ap (λ (n : ℕ). take n s) k ∙ take-add a (e - a) s

-- a front that ends with a slash
front_slash : (s : List ℕ) (a : ℕ) → 0 < a → a ≤ length s → get_or s (a - 1) 0 ≡ 47 → take a s ≡ take (a - 1) s ++ 47 ∷ []
front_slash s a p l q =
    let k : a ≡ suc (a - 1) = omega arith in
    ap (λ (m : ℕ). take m s) k ∙ take-suc s (a - 1) 0 (omega arith) ∙ ap (λ (b : ℕ). take (a - 1) s ++ b ∷ []) q

pub components_none : components [] ≡ []
unfolding components
components_none = refl

-- what stands behind a slash adds its own components
behind : (p u : List ℕ) → components ((p ++ 47 ∷ []) ++ u) ≡ components (p ++ 47 ∷ []) ++ rest u
unfolding components rest names split idle
behind [] u = refl
behind (x ∷ p) u =
    ap components (append_assoc (x ∷ p) (47 ∷ []) u) ∙ components_append x p u
    ∙ sym (ap (λ (cs : List (List ℕ)). cs ++ rest u) (components_append x p [] ∙ append-nil (components (x ∷ p))))

pub components_behind : (s : List ℕ) (a e : ℕ) → 0 < a → a ≤ e → e ≤ length s → get_or s (a - 1) 0 ≡ 47 → components (take e s) ≡ components (take a s) ++ rest (take (e - a) (drop a s))
components_behind s a e p q l k =
    let f = front_slash s a p (omega arith) k in
    let u : List ℕ = take (e - a) (drop a s) in
    ap components (front_part s a e q) ∙ ap (λ (x : List ℕ). components (x ++ u)) f ∙ behind (take (a - 1) s) u
    ∙ ap (λ (x : List ℕ). components x ++ rest u) (sym f)

-- a slash behind a path adds nothing
bare : (p : List ℕ) → 0 < length p → components (p ++ 47 ∷ []) ≡ components p
bare [] h = absurd (omega arith)
bare (x ∷ p) h = components_append x p [] ∙ ap (λ (cs : List (List ℕ)). components (x ∷ p) ++ cs) rest_nil ∙ append-nil (components (x ∷ p))

pub back_slash : (s : List ℕ) (e : ℕ) → 1 < e → e ≤ length s → get_or s (e - 1) 0 ≡ 47 → components (take e s) ≡ components (take (e - 1) s)
back_slash s e p l k =
    let n : length (take (e - 1) s) ≡ e - 1 = length-take-le (e - 1) s (omega arith) in
    ap components (front_slash s e (omega arith) l k) ∙ bare (take (e - 1) s) (omega arith)

rest_idle : (p : List ℕ) → Free p → idle p ≡ true → rest p ≡ []
unfolding rest names
rest_idle p f n = rw (split_one p f, n)

-- the last part, from a to e, of the text up to e
module _ (s : List ℕ) (a e : ℕ) (w : Starts s e a) (l : e ≤ length s) where
  edge : 0 < a → get_or s (a - 1) 0 ≡ 47
  edge p = ⊎_elim (λ z. absurd (omega arith)) (λ q. q) w.edge

  pub back_dot : 0 < a → idle (take (e - a) (drop a s)) ≡ true → components (take e s) ≡ components (take a s)
  back_dot p n =
      components_behind s a e p w.inside l (edge p)
      ∙ ap (λ (cs : List (List ℕ)). components (take a s) ++ cs) (rest_idle (take (e - a) (drop a s)) w.free n) ∙ append-nil (components (take a s))

  back_name : 0 < a → idle (take (e - a) (drop a s)) ≡ false → components (take e s) ≡ components (take a s) ++ take (e - a) (drop a s) ∷ []
  back_name p n =
      components_behind s a e p w.inside l (edge p)
      ∙ ap (λ (cs : List (List ℕ)). components (take a s) ++ cs) (rest_one (take (e - a) (drop a s)) w.free n)

-- ---- the last component

pub last_empty : (s : List ℕ) (e : ℕ) → components s ≡ components (take e s) → e ≤ 0 → components s ≡ []
last_empty s e m z =
    let q : e ≡ 0 = omega arith in
    m ∙ ap (λ (k : ℕ). components (take k s)) q ∙ components_none

one : (b : ℕ) (t : List ℕ) → b ≡ 47 → components (b ∷ []) ≡ components [] ++ (b ∷ []) ∷ []
unfolding components names split idle
one b t q = rw (eq-eqb b 47 q) (ap (λ (x : ℕ). (x ∷ []) ∷ []) (sym q))

pub last_root : (s : List ℕ) (e : ℕ) → components s ≡ components (take e s) → e ≡ 1 → 1 ≤ length s → get_or s (e - 1) 0 ≡ 47 → Last s 0 1
last_root [] e m z l q = absurd (omega arith)
last_root (b ∷ t) e m z l q =
    let h : b ≡ 47 = subst (λ (k : ℕ). get_or (b ∷ t) (k - 1) 0 ≡ 47) z q in
    record { some = omega arith; inside = l; edge = inl refl; gives = m ∙ ap (λ (k : ℕ). components (take k (b ∷ t))) z ∙ one b t h }

single : (p : List ℕ) → Free p → 0 < length p → components p ≡ p ∷ []
single [] f h = absurd (omega arith)
single (b ∷ p) f h = components_one b p f

module _ (s : List ℕ) (a e : ℕ) (m : components s ≡ components (take e s)) (w : Starts s e a) (l : e ≤ length s) (h : a < e) where
  pub last_first : a ≡ 0 → Last s 0 e
  last_first z =
      let f : Free (take (e - 0) s) = subst (λ (k : ℕ). Free (take (e - k) (drop k s))) z w.free in
      let k : e ≡ e - 0 = omega arith in
      let n : length (take (e - 0) s) ≡ e - 0 = length-take-le (e - 0) s (omega arith) in
      record {
        some = omega arith;
        inside = l;
        edge = inl refl;
        gives = m ∙ ap (λ (k : ℕ). components (take k s)) k ∙ single (take (e - 0) s) f (omega arith)
            ∙ sym (ap (λ (cs : List (List ℕ)). cs ++ take (e - 0) s ∷ []) components_none);
      }

  pub last_name : (a ≡ 0 → ⊥) → idle (take (e - a) (drop a s)) ≡ false → Last s a e
  last_name z n = record { some = h; inside = l; edge = w.edge; gives = m ∙ back_name s a e w l (omega arith) n }

-- ---- two walks side by side

-- in a front of a text, which was lent
module _ (a : List ℕ) (i s e : ℕ) (h : i ≤ length a) (n : Last (take i a) s e) where
  pub part_inside : e ≤ i
  part_inside = omega (arith, n.inside, length-take-le i a h)

  front_last : components (take i a) ≡ components (take s a) ++ take (e - s) (drop s a) ∷ []
  front_last =
      let o = n.some in
      let l = length-take-le i a h in
      let t : take s (take i a) ≡ take s a = take-take s i a (omega (arith, part_inside)) in
      let u : take (e - s) (drop s (take i a)) ≡ take (e - s) (drop s a) =
      sym (part_append (take i a) (drop i a) s (e - s) (omega (arith, part_inside))) ∙ ap (λ (x : List ℕ). take (e - s) (drop s x)) (take-append-drop i a) in
      n.gives ∙ rw (t, u)

-- components with a last one are some
more : (cs : List (List ℕ)) (c : List ℕ) → length (cs ++ c ∷ []) ≡ 0 → ⊥
more cs c x = omega (arith, length-append cs (c ∷ []))

off : (t : Bool) → false ≡ not t → t ≡ true
off true e = refl
off false e = absurd (false≢true e)

on : (t : Bool) → true ≡ not t → t ≡ false
on true e = absurd (false≢true (sym e))
on false e = refl

module _ (a b : List ℕ) (i j : ℕ) (w : same_path a b ≡ same_path (take i a) (take j b)) where
  pub same_end : components (take i a) ≡ [] → (r : Option Part) → LastOf (take j b) r → (t : Bool) → is_some r ≡ not t → t ≡ same_path a b
  unfolding same_path same
  same_end m None n t e = off t e ∙ sym (w ∙ rw (m, n))
  same_end m (Some q) n t e =
      on t e ∙ sym (w ∙ rw (m, n.gives)
      (same_length same_bytes [] _ (λ x. more (components (take q.start (take j b))) (take (q.stop - q.start) (drop q.start (take j b))) (sym x))))

  pub same_shorter : (s e : ℕ) → Last (take i a) s e → components (take j b) ≡ [] → false ≡ same_path a b
  unfolding same_path
  same_shorter s e m n =
      sym (w ∙ rw (m.gives, n)
      (same_length same_bytes _ [] (more (components (take s (take i a))) (take (e - s) (drop s (take i a))))))

module _ (a b : List ℕ) (i j s e t f : ℕ) (h : i ≤ length a) (k : j ≤ length b) (m : Last (take i a) s e) (n : Last (take j b) t f)
    (w : same_path a b ≡ same_path (take i a) (take j b)) where
  turn : same_path a b ≡ cond (same_bytes (take (e - s) (drop s a)) (take (f - t) (drop t b))) (same_path (take s a) (take t b)) false
  unfolding same_path
  turn =
      w ∙ rw (front_last a i s e h m, front_last b j t f k n)
      (same_snoc same_bytes (components (take s a)) (components (take t b)) (take (e - s) (drop s a)) (take (f - t) (drop t b)))

  pub same_differ : same_bytes (take (e - s) (drop s a)) (take (f - t) (drop t b)) ≡ false → false ≡ same_path a b
  same_differ r = sym (turn ∙ rw r)

  pub same_on : same_bytes (take (e - s) (drop s a)) (take (f - t) (drop t b)) ≡ true → same_path a b ≡ same_path (take s a) (take t b)
  same_on r = turn ∙ rw r
