-- What holds of the ancestors of a path, which are its proper fronts in normal spelling, and of its parent, which is the nearest.
use Rattle.std.proofs.Common.{◌≡◌, ℕ, zero, suc, ◌<◌, ◌≤◌, false, List, [], ◌∷◌, ◌++◌, map, length, take, sym, refl, ap, ◌∙◌, subst, ⊎_elim, append_assoc, arith, length-append, length-take-le, take-take, ne_eqb}
use mathlib.Core.List.Memᴰ
use Rattle.lists.specs.Distinct.{In, Distinct}
use Rattle.lists.specs.Distinct.Distinct.{none, more}
use Rattle.path.specs.Path.{components, init, join, normal, parent_of, fronts, ancestors, last_of}
use Rattle.path.specs.Walk.{up_from, Above}
use Rattle.path.proofs.Parts.{Formed, formed, formed_front, components_join, join_front}
use Rattle.path.proofs.Theorems.{normal_short}

-- ---- fronts

-- the longest first, and then its own
fronts_step : (c d : List ℕ) (cs : List (List ℕ)) → fronts (c ∷ d ∷ cs) ≡ init (c ∷ d ∷ cs) ∷ fronts (init (c ∷ d ∷ cs))
unfolding fronts init
fronts_step c d [] = refl
fronts_step c d (e ∷ cs) = rw (fronts_step d e cs)

pub fronts_nil : (cs : List (List ℕ)) → init cs ≡ [] → fronts cs ≡ []
unfolding fronts init
fronts_nil [] h = refl
fronts_nil (c ∷ []) h = refl
fronts_nil (c ∷ d ∷ cs) h = absurd (omega (arith, ap length h))

pub fronts_some : (cs : List (List ℕ)) → (init cs ≡ [] → ⊥) → fronts cs ≡ init cs ∷ fronts (init cs)
unfolding init
fronts_some [] h = absurd (h refl)
fronts_some (c ∷ []) h = absurd (h refl)
fronts_some (c ∷ d ∷ cs) h = fronts_step c d cs

abbrev pub Some : List (List ℕ) → Type 0
Some [] = ⊥
Some (c ∷ cs) = Unit {0}

-- f is a proper front of cs that is not empty
pub record Front (f cs : List (List ℕ)) : Type 0 where
  pub behind : List (List ℕ)
  pub whole : f ++ behind ≡ cs
  pub some : Some f
  pub proper : Some behind

front_more : (c : List ℕ) (f cs : List (List ℕ)) → ((g : List (List ℕ)) × Front g cs × (◌≡◌ {A = List (List ℕ)} (c ∷ g) f)) → Front f (c ∷ cs)
front_more c f cs r =
    let t : Front (c ∷ r.0) (c ∷ cs) = record { behind = r.1.behind; whole = ap (λ (x : List (List ℕ)). c ∷ x) r.1.whole; some = tt; proper = r.1.proper } in
    subst (λ (x : List (List ℕ)). Front x (c ∷ cs)) r.2 t

front_one : (c d : List ℕ) (cs f : List (List ℕ)) → f ≡ c ∷ [] → Front f (c ∷ d ∷ cs)
front_one c d cs f e =
    let t : Front (c ∷ []) (c ∷ d ∷ cs) = record { behind = d ∷ cs; whole = refl; some = tt; proper = tt } in
    subst (λ (x : List (List ℕ)). Front x (c ∷ d ∷ cs)) (sym e) t

front_of : (cs f : List (List ℕ)) → In f (fronts cs) → Front f cs
unfolding fronts
front_of [] f m = absurd (Memᴰ.not-nil m)
front_of (c ∷ []) f m = absurd (Memᴰ.not-nil m)
front_of (c ∷ d ∷ cs) f m =
    ⊎_elim (long (front_of (d ∷ cs))) (λ o. front_one c d cs f (Memᴰ.eq_of_singleton o))
    (Memᴰ.append_cases (map (λ (x : List (List ℕ)). c ∷ x) (fronts (d ∷ cs))) m)
  where
    long : ((g : List (List ℕ)) → In g (fronts (d ∷ cs)) → Front g (d ∷ cs)) → In f (map (λ (x : List (List ℕ)). c ∷ x) (fronts (d ∷ cs))) → Front f (c ∷ d ∷ cs)
    long ih m =
        let r = Memᴰ.of_map (λ (x : List (List ℕ)). c ∷ x) (fronts (d ∷ cs)) m in
        front_more c f (d ∷ cs) (r.0, ih r.0 r.1, r.2)

of_front : (f t : List (List ℕ)) → Some f → Some t → In f (fronts (f ++ t))
unfolding fronts
of_front [] t p q = absurd p
of_front (c ∷ []) [] p q = absurd q
of_front (c ∷ []) (d ∷ t) p q = Memᴰ.append_right (map (λ (x : List (List ℕ)). c ∷ x) (fronts (d ∷ t))) (Memᴰ.head refl)
of_front (c ∷ e ∷ f) t p q = Memᴰ.append_left ((c ∷ []) ∷ []) (Memᴰ.map (λ (x : List (List ℕ)). c ∷ x) (of_front (e ∷ f) t tt q))

some_append : (f t : List (List ℕ)) → Some f → Some (f ++ t)
some_append [] t p = absurd p
some_append (c ∷ f) t p = tt

some_long : (f : List (List ℕ)) → Some f → 0 < length f
some_long [] p = absurd p
some_long (c ∷ f) p = omega arith

front_front : (g f cs : List (List ℕ)) → Front g f → Front f cs → Front g cs
front_front g f cs p q =
    record {
      behind = p.behind ++ q.behind;
      whole = sym (append_assoc g p.behind q.behind) ∙ ap (λ (x : List (List ℕ)). x ++ q.behind) p.whole ∙ q.whole;
      some = p.some;
      proper = some_append p.behind q.behind p.proper;
    }

pub front_shorter : (f cs : List (List ℕ)) → Front f cs → length f < length cs
front_shorter f cs p = omega (arith, ap length p.whole, length-append f p.behind, some_long p.behind p.proper)

front_formed : (f cs : List (List ℕ)) → Formed cs → Front f cs → Formed f
front_formed f cs n p = formed_front f p.behind (subst Formed (sym p.whole) n)

-- ---- ancestors

-- a is an ancestor of p: its components are a proper front of the path's, and it is in normal spelling
pub record Ancestor (p a : List ℕ) : Type 0 where
  pub front : Front (components a) (components p)
  pub spelt : normal a ≡ a

-- The list of ancestors holds ancestors,
pub ancestor_of : (p a : List ℕ) → In a (ancestors p) → Ancestor p a
unfolding ancestors normal
ancestor_of p a m =
    let r = Memᴰ.of_map (join false) (fronts (components p)) m in
    let f : Front r.0 (components p) = front_of (components p) r.0 r.1 in
    let e : components a ≡ r.0 = ap components (sym r.2) ∙ components_join r.0 (front_formed r.0 (components p) (formed p) f) in
    record {
      front = subst (λ (x : List (List ℕ)). Front x (components p)) (sym e) f;
      spelt = ap (join false) e ∙ r.2;
    }

-- and all of them.
pub of_ancestor : (p a : List ℕ) → Ancestor p a → In a (ancestors p)
unfolding ancestors normal
of_ancestor p a h =
    let f = h.front in
    let m : In (components a) (fronts (components p)) = subst (λ (x : List (List ℕ)). In (components a) (fronts x)) f.whole (of_front (components a) f.behind f.some f.proper) in
    Memᴰ.cast (sym h.spelt) (Memᴰ.map (join false) m)

-- Equal paths have equal ancestors.
pub ancestors_same : (p q : List ℕ) → components p ≡ components q → ancestors p ≡ ancestors q
unfolding ancestors
ancestors_same p q e = rw e

-- The ancestors of an ancestor are ancestors.
pub ancestors_up : (p x a : List ℕ) → In x (ancestors p) → In a (ancestors x) → In a (ancestors p)
ancestors_up p x a m n =
    let u = ancestor_of p x m in
    let v = ancestor_of x a n in
    of_ancestor p a (record { front = front_front (components a) (components x) (components p) v.front u.front; spelt = v.spelt })

-- An ancestor is in normal spelling,
pub ancestor_normal : (p a : List ℕ) → In a (ancestors p) → normal a ≡ a
ancestor_normal p a m = (ancestor_of p a m).spelt

-- is no longer than the normal spelling of the path,
pub ancestor_short : (p a : List ℕ) → In a (ancestors p) → length a ≤ length (normal p)
unfolding normal
ancestor_short p a m =
    let u = ancestor_of p a m in
    let e : length (join false (components a)) ≡ length a = ap length u.spelt in
    let q : length (join false (components a ++ u.front.behind)) ≡ length (join false (components p)) = ap (λ (x : List (List ℕ)). length (join false x)) u.front.whole in
    omega (arith, join_front false (components a) u.front.behind)

-- and so no longer than the path,
pub ancestor_fits : (p a : List ℕ) → In a (ancestors p) → length a ≤ length p
ancestor_fits p a m = omega (arith, ancestor_short p a m, normal_short p)

-- and is not empty.
pub ancestor_some : (p a : List ℕ) → In a (ancestors p) → a ≡ [] → ⊥
unfolding components
ancestor_some p a m e = bare (components a) (ap components e ∙ none_of) (ancestor_of p a m).front.some
  where
    none_of : components [] ≡ []
    none_of = refl

    bare : (cs : List (List ℕ)) → cs ≡ [] → Some cs → ⊥
    bare [] f s = s
    bare (c ∷ cs) f s = omega (arith, ap length f)

-- No ancestor is there twice.
joined_apart : (f : List (List ℕ)) → Formed f → In (join false f) (map (join false) (fronts f)) → ⊥
joined_apart f n m =
    let s = Memᴰ.of_map (join false) (fronts f) m in
    let g : Front s.0 f = front_of f s.0 s.1 in
    let e : s.0 ≡ f = sym (components_join s.0 (front_formed s.0 f n g)) ∙ ap components s.2 ∙ components_join f n in
    omega (arith, front_shorter s.0 f g, ap length e)

distinct_fronts : (k : ℕ) (cs : List (List ℕ)) → Formed cs → length cs ≤ k → Distinct (map (join false) (fronts cs))
unfolding fronts
distinct_fronts zero [] n h = none
distinct_fronts zero (c ∷ cs) n h = absurd (omega arith)
distinct_fronts (suc k) [] n h = none
distinct_fronts (suc k) (c ∷ []) n h = none
distinct_fronts (suc k) (c ∷ d ∷ cs) n h =
    let f : List (List ℕ) = init (c ∷ d ∷ cs) in
    let g : Front f (c ∷ d ∷ cs) = front_of (c ∷ d ∷ cs) f (subst (λ (l : List (List (List ℕ))). In f l) (sym (fronts_step c d cs)) (Memᴰ.head refl)) in
    let m : Formed f = front_formed f (c ∷ d ∷ cs) n g in
    subst (λ (l : List (List (List ℕ))). Distinct (map (join false) l)) (sym (fronts_step c d cs))
    (more (joined_apart f m) (distinct_fronts k f m (omega (arith, front_shorter f (c ∷ d ∷ cs) g))))

pub ancestors_distinct : (p : List ℕ) → Distinct (ancestors p)
unfolding ancestors
ancestors_distinct p = distinct_fronts (length (components p)) (components p) (formed p) (omega arith)

-- ---- the parent

init_whole : (c : List ℕ) (cs : List (List ℕ)) → init (c ∷ cs) ++ last_of (c ∷ cs) ∷ [] ≡ c ∷ cs
unfolding init last_of
init_whole c [] = refl
init_whole c (d ∷ cs) = ap (λ (r : List (List ℕ)). c ∷ r) (init_whole d cs)

init_formed : (cs : List (List ℕ)) → Formed cs → Formed (init cs)
unfolding init
init_formed [] f = tt
init_formed (c ∷ cs) f = formed_front (init (c ∷ cs)) (last_of (c ∷ cs) ∷ []) (subst Formed (sym (init_whole c cs)) f)

-- The parent has the components of the path but the last,
pub components_parent : (s : List ℕ) → components (parent_of s) ≡ init (components s)
unfolding parent_of
components_parent s = components_join (init (components s)) (init_formed (components s) (formed s))

-- is in normal spelling,
pub parent_normal : (s : List ℕ) → normal (parent_of s) ≡ parent_of s
unfolding normal parent_of
parent_normal s = ap (join false) (components_parent s)

-- has fewer components than a path that has any,
pub parent_fewer : (s : List ℕ) → 0 < length (components s) → length (components (parent_of s)) < length (components s)
parent_fewer s h = rw (components_parent s) (fewer (components s) h)
  where
    fewer : (cs : List (List ℕ)) → 0 < length cs → length (init cs) < length cs
    fewer [] h = absurd (omega arith)
    fewer (c ∷ cs) h = omega (arith, ap length (init_whole c cs), length-append (init (c ∷ cs)) (last_of (c ∷ cs) ∷ []))

-- and is the nearest ancestor, before its own,
pub ancestors_parent : (s : List ℕ) → (parent_of s ≡ [] → ⊥) → ancestors s ≡ parent_of s ∷ ancestors (parent_of s)
unfolding ancestors parent_of join
ancestors_parent s n =
    let t : init (components s) ≡ [] → ⊥ = λ e. n (ap (join false) e) in
    ap (map (join false)) (fronts_some (components s) t)
    ∙ ap (λ (cs : List (List ℕ)). join false (init (components s)) ∷ map (join false) (fronts cs)) (sym (components_parent s))

-- unless it is empty or there is none.
pub ancestors_none : (s : List ℕ) → parent_of s ≡ [] → ancestors s ≡ []
unfolding ancestors components
ancestors_none s e = ap (map (join false)) (fronts_nil (components s) (sym (components_parent s) ∙ ap components e))

-- ---- the walk up

-- The walk starts at `above`, goes on with it from front to front, and is at its end at 0.
pub up_end : (s : List ℕ) → up_from s 0 ≡ []
unfolding up_from
up_end s = refl

module _ (s : List ℕ) (e r : ℕ) (h : e ≤ length s) (z : e ≡ 0 → ⊥) (a : Above (take e s) r) where
  -- It comes to an end,
  pub up_falls : r < e
  up_falls =
      let l : length (take e s) ≡ e = length-take-le e s h in
      omega (arith, a.falls (omega arith))

  -- and each turn is one ancestor.
  pub up_step : up_from s e ≡ normal (take e s) ∷ up_from s r
  unfolding up_from
  up_step =
      let t : take r (take e s) ≡ take r s = take-take r e s (omega (arith, up_falls)) in
      rw (ne_eqb e 0 z, a.gives, t)
