-- Laws of the order of normal spellings, along a walk of both.
use Rattle.std.specs.declared.cmp.Ordering.{Ordering}
use Rattle.std.specs.declared.cmp.Ordering.TheVariants.{Equal, Greater, Less}
use Rattle.std.specs.Prelude.{None, Option, Some}
use Rattle.std.specs.Option.{is_some}
use Rattle.std.proofs.Common.{◌≡◌, ℕ, ◌+◌, ◌-◌, ◌<◌, ◌≤◌, min, Bool, true, false, cond, not, eqb, ltb, ◌⊎◌, List, [], ◌∷◌, ◌++◌, length, get_or, take, drop, sym, refl, ap, ◌∙◌, subst, inl, inr, add-one, arith, drop_of_length-le, drop-cons, ltb-false, ltb-true, lt-ltb, ne_eqb}
use Rattle.std.specs.Ordering.{nat_cmp}
use mathlib.Core.Bool.{false≢true}
use borrow.Author.Tests.{eqb-false}
use Rattle.lists.specs.Same.{same_bytes, same_bytes_eq, same_bytes_refl}
use Rattle.lists.specs.Order.{and_then, cmp_nat, lex, byte_order, nat_less, nat_greater, nat_orders, equal_cases, lex_append}
use Rattle.path.specs.Path.{is_root, slash, join, normal, path_order}
use Rattle.path.specs.declared.Part.{Part}
use Rattle.path.specs.Walk.{left, Next, NextOf, Free, name_order}
use Rattle.path.proofs.Parts.{First, Formed, no_root}
use Rattle.path.proofs.Walks.{left_formed}

-- ---- two names, at a place of both

module _ (m n : Bool) (a b : List ℕ) (i : ℕ) where
  pub names_both : i < length a → i < length b → name_order m (drop i a) n (drop i b) ≡ and_then (cmp_nat (get_or a i 0) (get_or b i 0)) (name_order m (drop (i + 1) a) n (drop (i + 1) b))
  unfolding name_order
  names_both h k = rw (add-one i, drop-cons a i 0 h, drop-cons b i 0 k)

  names_b_ends : i < length a → length b ≤ i → name_order m (drop i a) n (drop i b) ≡ cond n (cond (ltb (get_or a i 0) 47) Less Greater) Greater
  unfolding name_order
  names_b_ends h k = rw (drop-cons a i 0 h, drop_of_length-le b k)

  names_a_ends : length a ≤ i → i < length b → name_order m (drop i a) n (drop i b) ≡ cond m (cond (ltb 47 (get_or b i 0)) Less Greater) Less
  unfolding name_order
  names_a_ends h k = rw (drop-cons b i 0 k, drop_of_length-le a h)

  names_end : length a ≤ i → length b ≤ i → name_order m (drop i a) n (drop i b) ≡ Equal
  unfolding name_order
  names_end h k = rw (drop_of_length-le b k, drop_of_length-le a h)

-- where the shorter of two names ends, as far as which they are alike
module _ (m n : Bool) (a b : List ℕ) (i : ℕ) (z : i ≡ min (length a) (length b)) (v : name_order m a n b ≡ name_order m (drop i a) n (drop i b)) where
  pub b_over : length b < length a → name_order m a n b ≡ cond n (cond (ltb (get_or a (length b) 0) 47) Less Greater) Greater
  b_over h = let e : i ≡ length b = omega arith in (rw e at v) ∙ names_b_ends m n a b (length b) h (omega arith)

  pub a_over : length a < length b → name_order m a n b ≡ cond m (cond (ltb 47 (get_or b (length a) 0)) Less Greater) Less
  a_over h = let e : i ≡ length a = omega arith in (rw e at v) ∙ names_a_ends m n a b (length a) (omega arith) h

  pub both_over : length a ≡ length b → name_order m a n b ≡ Equal
  both_over h = v ∙ names_end m n a b i (omega arith) (omega arith)

-- numbers, as the library compares them
pub numbers_apart : (x y : ℕ) → (x ≡ y → ⊥) → (o : Ordering) → and_then (cmp_nat x y) o ≡ nat_cmp x y
unfolding cmp_nat
numbers_apart x y n o = go (ltb x y) refl
  where
    go : (t : Bool) → ltb x y ≡ t → and_then (cond t Less (cond (ltb y x) Greater Equal)) o ≡ cond t Less (cond (eqb x y) Equal Greater)
    go true e = refl
    go false e = let l = ltb-false x y e in rw (ne_eqb x y n, lt-ltb y x (omega arith))

-- ---- names that differ

abbrev pub some : List (List ℕ) → Bool
some [] = false
some (c ∷ cs) = true

-- numbers that differ
apart : (x y : ℕ) → (x ≡ y → ⊥) → cmp_nat x y ≡ cond (ltb x y) Less Greater
apart x y n = go (ltb x y) refl
  where
    go : (t : Bool) → ltb x y ≡ t → cmp_nat x y ≡ cond t Less Greater
    go true e = nat_less x y (ltb-true x y e)
    go false e = let l = ltb-false x y e in nat_greater x y (omega arith)

no_slash_right : (x : ℕ) → eqb x 47 ≡ false → cmp_nat 47 x ≡ cond (ltb 47 x) Less Greater
no_slash_right x h = apart 47 x (λ e. eqb-false x 47 h (sym e))

no_slash_left : (x : ℕ) → eqb x 47 ≡ false → cmp_nat x 47 ≡ cond (ltb x 47) Less Greater
no_slash_left x h = apart x 47 (eqb-false x 47 h)

-- an order that is decided leaves nothing to what follows
decided : (t : Bool) (o p : Ordering) → and_then (cond t Less Greater) o ≡ and_then (cond t Less Greater) p
decided true o p = refl
decided false o p = refl

assoc : (o p q : Ordering) → and_then o (and_then p q) ≡ and_then (and_then o p) q
assoc Less p q = refl
assoc Equal p q = refl
assoc Greater p q = refl

-- two names with a slash and more behind them, or nothing
free_order : (c d : List ℕ) (cs ds : List (List ℕ)) → Free c → Free d
    → byte_order (c ++ join true cs) (d ++ join true ds) ≡ and_then (name_order (some cs) c (some ds) d) (byte_order (join true cs) (join true ds))
unfolding lex name_order join slash
free_order [] [] cs ds f g = refl
free_order [] (y ∷ d) [] ds f g = refl
free_order [] (y ∷ d) (c ∷ cs) ds f g = rw (no_slash_right y g.0) (decided (ltb 47 y) _ _)
free_order (x ∷ c) [] cs [] f g = refl
free_order (x ∷ c) [] cs (d ∷ ds) f g = rw (no_slash_left x f.0) (decided (ltb x 47) _ _)
free_order (x ∷ c) (y ∷ d) cs ds f g =
    ap (and_then (cmp_nat x y)) (free_order c d cs ds f.1 g.1) ∙ assoc (cmp_nat x y) (name_order (some cs) c (some ds) d) (byte_order (join true cs) (join true ds))

unlevel : {A : Type 0} (t : Bool) → cond t Less Greater ≡ Equal → A
unlevel true e = let z : ◌≡◌ {A = ℕ} 0 1 = cc in absurd (omega arith)
unlevel false e = let z : ◌≡◌ {A = ℕ} 0 1 = cc in absurd (omega arith)

-- where one name ends before the other they are never level
uneven : {A : Type 0} (m t u : Bool) → cond m (cond t Less Greater) (cond u Less Greater) ≡ Equal → A
uneven true t u e = unlevel t e
uneven false t u e = unlevel u e

-- names are level only if they are the same
name_equal : (m n : Bool) (c d : List ℕ) → name_order m c n d ≡ Equal → c ≡ d
unfolding name_order
name_equal m n [] [] e = refl
name_equal m n [] (y ∷ d) e = uneven m (ltb 47 y) true e
name_equal m n (x ∷ c) [] e = uneven n (ltb x 47) false e
name_equal m n (x ∷ c) (y ∷ d) e =
    let w = equal_cases (cmp_nat x y) (name_order m c n d) e in
    let h = nat_orders.equal x y w.0 in
    let t = name_equal m n c d w.1 in
    cc

first_decides : (o p : Ordering) → (o ≡ Equal → ⊥) → and_then o p ≡ o
first_decides Less p n = refl
first_decides Equal p n = absurd (n refl)
first_decides Greater p n = refl

-- the root beside a name, and a name beside the root
root_left : (c d X Y : List ℕ) (y : ℕ) (m n : Bool) → c ≡ 47 ∷ [] → eqb y 47 ≡ false → byte_order (c ++ X) ((y ∷ d) ++ Y) ≡ name_order m c n (y ∷ d)
unfolding lex name_order
root_left c d X Y y m n e h = rw (e, no_slash_right y h) (decided (ltb 47 y) _ _)

root_right : (c d X Y : List ℕ) (x : ℕ) (m n : Bool) → d ≡ 47 ∷ [] → eqb x 47 ≡ false → byte_order ((x ∷ c) ++ X) (d ++ Y) ≡ name_order m (x ∷ c) n d
unfolding lex name_order
root_right c d X Y x m n e h = rw (e, no_slash_left x h) (decided (ltb x 47) _ _)

-- the first components that differ decide
names_order : (c d : List ℕ) (cs ds : List (List ℕ)) → First c → First d → (c ≡ d → ⊥)
    → byte_order (c ++ join (not (is_root c)) cs) (d ++ join (not (is_root d)) ds) ≡ name_order (some cs) c (some ds) d
names_order [] d cs ds f g n = absurd f
names_order (x ∷ c) [] cs ds f g n = absurd g
names_order (x ∷ c) (y ∷ d) cs ds f g n = go f g
  where
    go : (◌≡◌ {A = List ℕ} (x ∷ c) (47 ∷ [])) ⊎ Free (x ∷ c) → (◌≡◌ {A = List ℕ} (y ∷ d) (47 ∷ [])) ⊎ Free (y ∷ d)
        → byte_order ((x ∷ c) ++ join (not (is_root (x ∷ c))) cs) ((y ∷ d) ++ join (not (is_root (y ∷ d))) ds) ≡ name_order (some cs) (x ∷ c) (some ds) (y ∷ d)
    go (inl e) (inl h) = absurd (n (e ∙ sym h))
    go (inl e) (inr h) = root_left (x ∷ c) d _ _ y (some cs) (some ds) e h.0
    go (inr e) (inl h) = root_right c (y ∷ d) _ _ x (some cs) (some ds) h e.0
    go (inr e) (inr h) =
        rw (no_root (x ∷ c) e, no_root (y ∷ d) h) (free_order (x ∷ c) (y ∷ d) cs ds e h
        ∙ first_decides (name_order (some cs) (x ∷ c) (some ds) (y ∷ d)) _ (λ z. n (name_equal (some cs) (some ds) (x ∷ c) (y ∷ d) z)))

-- ---- the walk

pub cmp_start : (a b : List ℕ) → path_order a b ≡ byte_order (join false (left a 0)) (join false (left b 0))
unfolding path_order normal left
cmp_start a b = refl

-- what is joined of some components is not empty
none_less : (w : Bool) (c : List ℕ) (cs : List (List ℕ)) → First c → byte_order [] (join w (c ∷ cs)) ≡ Less
unfolding lex join slash
none_less w [] cs f = absurd f
none_less true (b ∷ c) cs f = refl
none_less false (b ∷ c) cs f = refl

some_greater : (w : Bool) (c : List ℕ) (cs : List (List ℕ)) → First c → byte_order (join w (c ∷ cs)) [] ≡ Greater
unfolding lex join slash
some_greater w [] cs f = absurd f
some_greater true (b ∷ c) cs f = refl
some_greater false (b ∷ c) cs f = refl

-- whether more components follow
some_left : (s : List ℕ) (i : ℕ) (r : Option Part) → NextOf s i r → is_some r ≡ some (left s i)
some_left s i None n = rw n
some_left s i (Some p) n = rw n.gives

module _ (a b : List ℕ) (i j : ℕ) (w : Bool) (v : path_order a b ≡ byte_order (join w (left a i)) (join w (left b j))) where
  pub cmp_end : left a i ≡ [] → (r : Option Part) → NextOf b j r → (t : Bool) → is_some r ≡ t → cond t Less Equal ≡ path_order a b
  unfolding lex join
  cmp_end p None n t e = sym (v ∙ rw (← e, p, n))
  cmp_end p (Some q) n t e =
      let g : Formed (take (q.stop - q.start) (drop q.start b) ∷ left b q.stop) = subst Formed n.gives (left_formed b j) in
      rw (← e) (sym (v ∙ ap (λ (cs : List (List ℕ)). byte_order (join w cs) (join w (left b j))) p
      ∙ ap (λ (cs : List (List ℕ)). byte_order [] (join w cs)) n.gives ∙ none_less w (take (q.stop - q.start) (drop q.start b)) (left b q.stop) g.0))

  pub cmp_greater : (s e : ℕ) → Next a i s e → left b j ≡ [] → Greater ≡ path_order a b
  unfolding join
  cmp_greater s e m q =
      let g : Formed (take (e - s) (drop s a) ∷ left a e) = subst Formed m.gives (left_formed a i) in
      sym (v ∙ ap (λ (cs : List (List ℕ)). byte_order (join w (left a i)) (join w cs)) q
      ∙ ap (λ (cs : List (List ℕ)). byte_order (join w cs) []) m.gives ∙ some_greater w (take (e - s) (drop s a)) (left a e) g.0)

  module _ (s e t f : ℕ) (m : Next a i s e) (n : Next b j t f) where
    abbrev c : List ℕ
    c = take (e - s) (drop s a)

    abbrev d : List ℕ
    d = take (f - t) (drop t b)

    here : path_order a b ≡ byte_order (c ++ join (not (is_root c)) (left a e)) (d ++ join (not (is_root d)) (left b f))
    unfolding join
    here = v ∙ rw (m.gives, n.gives) (lex_append cmp_nat nat_orders (slash w) _ _)

    pub cmp_differ : (x y : Option Part) → NextOf a e x → NextOf b f y → same_bytes c d ≡ false → name_order (is_some x) c (is_some y) d ≡ path_order a b
    cmp_differ x y k l r =
        let g : Formed (c ∷ left a e) = subst Formed m.gives (left_formed a i) in
        let h : Formed (d ∷ left b f) = subst Formed n.gives (left_formed b j) in
        let ne : c ≡ d → ⊥ = λ z. false≢true (sym r ∙ ap (λ (l : List ℕ). same_bytes l d) z ∙ same_bytes_refl d) in
        rw (some_left a e x k, some_left b f y l) (sym (here ∙ names_order c d (left a e) (left b f) g.0 h.0 ne))

    pub cmp_on : same_bytes c d ≡ true → (u : Bool) × (path_order a b ≡ byte_order (join u (left a e)) (join u (left b f)))
    cmp_on r =
        let z : d ≡ c = sym (same_bytes_eq c d r) in (
          not (is_root c),
          here ∙ ap (λ (l : List ℕ). byte_order (c ++ join (not (is_root c)) (left a e)) (l ++ join (not (is_root l)) (left b f))) z ∙ lex_append cmp_nat nat_orders c _ _,
        )
