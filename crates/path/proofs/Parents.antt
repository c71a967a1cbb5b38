-- Laws of the parent and of the walk up through the ancestors.
use Rattle.std.specs.Prelude.{None, Option, Some}
use Rattle.std.specs.Option.{unwrap_or}
use Rattle.std.proofs.Common.{◌≡◌, ℕ, zero, suc, ◌-◌, ◌<◌, ◌≤◌, true, false, not, eqb, List, [], ◌∷◌, ◌++◌, length, get_or, take, drop, sym, refl, ap, ◌∙◌, subst, ⊎_elim, arith, length-take-le, take_all, eq-eqb, ne_eqb}
use mathlib.Core.Bool.{false≢true}
use Rattle.le.specs.Le.{laid}
use Rattle.path.specs.Path.{components, same_path, init, is_root, has_parent, is_parent, join, normal, parent_of, parent_len, fronts, ancestors}
use Rattle.path.specs.Walk.{Last, UpTo, UpOf, parent_laid, up_from, Above}
use Rattle.path.proofs.Parts.{AllNamed, Formed, formed, no_root}
use Rattle.path.proofs.Theorems.{no_components}
use Rattle.path.proofs.Ancestors.{fronts_nil, fronts_some}
use Rattle.path.proofs.Walks.{root_at}
use Rattle.path.proofs.Backs.{components_none, back_slash}

-- ---- components with a last one

init_last : (xs : List (List ℕ)) (c : List ℕ) → init (xs ++ c ∷ []) ≡ xs
unfolding init
init_last [] c = refl
init_last (x ∷ []) c = refl
init_last (x ∷ y ∷ xs) c = ap (λ (r : List (List ℕ)). x ∷ r) (init_last (y ∷ xs) c)

last_free : (xs : List (List ℕ)) (c : List ℕ) → AllNamed (xs ++ c ∷ []) → is_root c ≡ false
last_free [] c n = no_root c n.0
last_free (x ∷ xs) c n = last_free xs c n.2

has_last : (xs : List (List ℕ)) (c : List ℕ) → Formed (xs ++ c ∷ []) → has_parent (xs ++ c ∷ []) ≡ not (is_root c)
unfolding has_parent
has_last [] c f = refl
has_last (x ∷ []) c f = rw (last_free [] c f.1)
has_last (x ∷ y ∷ xs) c f = rw (last_free (y ∷ xs) c f.1)

-- ---- the parent's front

pub up_none : (s : List ℕ) (r : Option ℕ) → components s ≡ [] → r ≡ None → UpOf s r
unfolding has_parent
up_none s r n e = rw e (rw n)

module _ (s : List ℕ) (a e : ℕ) (n : Last s a e) where
  has : has_parent (components s) ≡ not (eqb (get_or s a 0) 47)
  has =
      let w = n.gives in
      let c : List ℕ = take (e - a) (drop a s) in
      let r : is_root c ≡ eqb (get_or s a 0) 47 = root_at s a e n.some (omega (arith, n.some, n.inside)) in
      ap has_parent w ∙ has_last (components (take a s)) c (subst Formed w (formed s)) ∙ ap not r

  pub up_root : get_or s a 0 ≡ 47 → has_parent (components s) ≡ false
  up_root h = has ∙ rw (eq-eqb (get_or s a 0) 47 h)

  pub up_start : (get_or s a 0 ≡ 47 → ⊥) → UpTo s a
  up_start h = record {
    inside = omega (arith, n.some, n.inside);
    names = sym (ap init n.gives ∙ init_last (components (take a s)) (take (e - a) (drop a s)));
    has = has ∙ rw (ne_eqb (get_or s a 0) 47 h);
  }

  -- without the slash before the last component
  pub up_before : (get_or s a 0 ≡ 47 → ⊥) → 1 < a → UpTo s (a - 1)
  up_before h l =
      let k : get_or s (a - 1) 0 ≡ 47 = ⊎_elim (λ z. absurd (omega arith)) (λ x. x) n.edge in
      let u = up_start h in
      record { inside = omega (arith, u.inside); names = sym (back_slash s a l u.inside k) ∙ u.names; has = u.has }

-- ---- what is said of the parent

pub parent_none : (d f : List ℕ) → has_parent (components f) ≡ false → false ≡ is_parent d f
unfolding is_parent
parent_none d f h = rw h

pub parent_some : (d f : List ℕ) (e : ℕ) → UpTo f e → same_path d (take e f) ≡ is_parent d f
unfolding is_parent same_path
parent_some d f e u = rw (u.has, u.names)

pub parent_kept : (s d : List ℕ) (r : Option ℕ) → has_parent (components s) ≡ false → r ≡ None → (r ≡ parent_len s) × (d ≡ parent_laid d s)
unfolding parent_len parent_laid
parent_kept s d r h e = (e ∙ rw h, rw h)

up_normal : (s : List ℕ) (e : ℕ) → UpTo s e → normal (take e s) ≡ parent_of s
unfolding normal parent_of
up_normal s e u = ap (join false) u.names

pub up_room : (s : List ℕ) (n e : ℕ) → UpTo s e → length (parent_of s) ≤ n → length (normal (take e s)) ≤ n
up_room s n e u h = rw (up_normal s e u) h

pub up_laid : (s d x : List ℕ) (e n : ℕ) → UpTo s e → (x ≡ laid d 0 (normal (take e s))) × (n ≡ length (normal (take e s))) → (Some n ≡ parent_len s) × (x ≡ parent_laid d s)
unfolding parent_len parent_laid
up_laid s d x e n u w = (rw u.has (ap Some (w.1 ∙ ap length (up_normal s e u))), rw u.has (w.0 ∙ ap (laid d 0) (up_normal s e u)))

-- ---- the walk up

length_init : (c : List ℕ) (cs : List (List ℕ)) → length (init (c ∷ cs)) ≡ length cs
unfolding init
length_init c [] = refl
length_init c (d ∷ cs) = ap suc (length_init d cs)

fronts_none : (cs : List (List ℕ)) → has_parent cs ≡ false → fronts cs ≡ []
unfolding fronts has_parent
fronts_none [] h = refl
fronts_none (c ∷ []) h = refl
fronts_none (c ∷ d ∷ cs) h = absurd (false≢true (sym h))

init_shorter : (cs : List (List ℕ)) → has_parent cs ≡ true → cs ≡ init cs → ⊥
unfolding has_parent
init_shorter [] h e = absurd (false≢true h)
init_shorter (c ∷ cs) h e = omega (arith, length_init c cs, ap length e)

above_none : (s : List ℕ) → has_parent (components s) ≡ false → Above s 0
unfolding ancestors up_from
above_none s h = record { inside = omega arith; falls = λ z. z; gives = rw (fronts_none (components s) h) }

module _ (s : List ℕ) (e : ℕ) (u : UpTo s e) where
  up_zero : e ≡ 0 → ancestors s ≡ up_from s e
  unfolding ancestors up_from
  up_zero z =
      let t : init (components s) ≡ [] = sym u.names ∙ ap (λ (k : ℕ). components (take k s)) z ∙ components_none in
      rw (fronts_nil (components s) t, eq-eqb e 0 z)

  up_more : (e ≡ 0 → ⊥) → ancestors s ≡ up_from s e
  unfolding ancestors up_from normal
  up_more z =
      let l : length (take e s) ≡ e = length-take-le e s u.inside in
      let t : init (components s) ≡ [] → ⊥ = λ q. z (sym l ∙ ap length (no_components (take e s) (u.names ∙ q))) in
      rw (fronts_some (components s) t, ne_eqb e 0 z, u.names)

  whole : length s ≤ e → components s ≡ init (components s)
  whole q = ap components (sym (take_all e s q)) ∙ u.names

  above_some : Above s e
  above_some =
      record {
        inside = u.inside;
        falls = λ z. zero_or (length s - e) (e < length s) (λ q. absurd (init_shorter (components s) u.has (whole (omega arith)))) (λ q. omega (arith, u.inside));
        gives = zero_or e (ancestors s ≡ up_from s e) up_zero up_more;
      }
    where
      zero_or : (n : ℕ) (P : Type 0) → (n ≡ 0 → P) → ((n ≡ 0 → ⊥) → P) → P
      zero_or zero P f g = f refl
      zero_or (suc n) P f g = g (λ x. omega arith)

pub above_of : (s : List ℕ) (r : Option ℕ) → UpOf s r → Above s (unwrap_or r 0)
above_of s None h = above_none s h
above_of s (Some e) u = above_some s e u
