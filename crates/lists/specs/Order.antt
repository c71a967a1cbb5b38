-- Three-way comparison: of numbers, its lexicographic lift to lists, and the laws of a total order.
use Rattle.std.specs.declared.cmp.Ordering.{Ordering}
use Rattle.std.specs.declared.cmp.Ordering.TheVariants.{Equal, Greater, Less}
use Rattle.std.specs.Prelude.{◌≡◌, ℕ, ◌<◌, ◌≤◌, Bool, true, false, cond, ◌⊎◌, List, [], ◌∷◌, ◌++◌, nat_lt}
use Rattle.std.proofs.Math.Path.{refl}
use Rattle.std.proofs.Common.{inl, inr, lt_trans, le_antisymm, arith, ltb-true, ltb-false, lt-ltb, le-ltb}

-- the order of the two the other way round
abbrev pub flip : Ordering → Ordering
flip Less = Greater
flip Equal = Equal
flip Greater = Less

-- the first way, or the second where the first is Equal
abbrev pub and_then : Ordering → Ordering → Ordering
and_then Less o = Less
and_then Equal o = o
and_then Greater o = Greater

-- numbers by their size
unfoldable pub cmp_nat : ℕ → ℕ → Ordering
cmp_nat x y = cond (nat_lt x y) Less (cond (nat_lt y x) Greater Equal)

-- the lexicographic lift: a list before its extensions
unfoldable pub lex : {K : Type 0} → (K → K → Ordering) → List K → List K → Ordering
lex cmp [] [] = Equal
lex cmp [] (y ∷ ys) = Less
lex cmp (x ∷ xs) [] = Greater
lex cmp (x ∷ xs) (y ∷ ys) = and_then (cmp x y) (lex cmp xs ys)

-- byte-wise lexicographic order
abbrev pub byte_order : List ℕ → List ℕ → Ordering
byte_order = lex cmp_nat

-- a total order, given three-way
pub record Orders {K : Type 0} (cmp : K → K → Ordering) : Type 0 where
  pub same : (a : K) → cmp a a ≡ Equal
  pub equal : (a b : K) → cmp a b ≡ Equal → a ≡ b
  pub flips : (a b : K) → cmp b a ≡ flip (cmp a b)
  pub chain : (a b c : K) → cmp a b ≡ Less → cmp b c ≡ Less → cmp a c ≡ Less

-- what sorting needs of it: also where different elements can be level
pub record Ranks {K : Type 0} (cmp : K → K → Ordering) : Type 0 where
  pub flips : (a b : K) → cmp b a ≡ flip (cmp a b)
  pub chain : (a b c : K) → cmp a b ≡ Less → cmp b c ≡ Less → cmp a c ≡ Less

pub ranks : {K : Type 0} (cmp : K → K → Ordering) → Orders cmp → Ranks cmp
ranks cmp L = record { flips = L.flips; chain = L.chain }

-- by a key
pub keyed : {A K : Type 0} (cmp : K → K → Ordering) (key : A → K) → Ranks cmp → Ranks (λ a b. cmp (key a) (key b))
keyed cmp key L = record { flips = λ a b. L.flips (key a) (key b); chain = λ a b c. L.chain (key a) (key b) (key c) }

-- ---- numbers
pub nat_less : (x y : ℕ) → x < y → cmp_nat x y ≡ Less
unfolding cmp_nat
nat_less x y h = rw (lt-ltb x y h)

pub nat_greater : (x y : ℕ) → y < x → cmp_nat x y ≡ Greater
unfolding cmp_nat
nat_greater x y h = let g : y ≤ x = omega arith in rw (le-ltb x y g, lt-ltb y x h)

pub nat_same : (x y : ℕ) → y ≤ x → x ≤ y → cmp_nat x y ≡ Equal
unfolding cmp_nat
nat_same x y g h = rw (le-ltb x y g, le-ltb y x h)

-- the three cases, with what each says of the numbers
data Three (x y : ℕ) : Type 0 where
  lower : x < y → Three x y
  level : x ≡ y → Three x y
  higher : y < x → Three x y

three : (x y : ℕ) → Three x y
three x y = go (nat_lt x y) (nat_lt y x) refl refl
  where
    go : (s t : Bool) → nat_lt x y ≡ s → nat_lt y x ≡ t → Three x y
    go true t p q = lower (ltb-true x y p)
    go false true p q = higher (ltb-true y x q)
    go false false p q = level (le_antisymm (ltb-false y x q) (ltb-false x y p))

-- no way is two
nope : {A : Type 0} → Less ≡ Equal → A
nope e = let z : ◌≡◌ {A = ℕ} 0 1 = cc in absurd (omega arith)

nat_flips : (x y : ℕ) → cmp_nat y x ≡ flip (cmp_nat x y)
nat_flips x y = go (three x y)
  where
    go : Three x y → cmp_nat y x ≡ flip (cmp_nat x y)
    go (lower h) = rw (nat_less x y h, nat_greater y x h)
    go (level e) = let a : x ≤ y = omega arith in let b : y ≤ x = omega arith in rw (nat_same x y b a, nat_same y x a b)
    go (higher h) = rw (nat_greater x y h, nat_less y x h)

nat_equal : (x y : ℕ) → cmp_nat x y ≡ Equal → x ≡ y
nat_equal x y e = go (three x y)
  where
    go : Three x y → x ≡ y
    go (lower h) = let n = nat_less x y h in cc
    go (level q) = q
    go (higher h) = let n = nat_greater x y h in cc

nat_lower : (x y : ℕ) → cmp_nat x y ≡ Less → x < y
nat_lower x y e = go (three x y)
  where
    go : Three x y → x < y
    go (lower h) = h
    go (level q) =
        let a : x ≤ y = omega arith in
        let b : y ≤ x = omega arith in
        let n = nat_same x y b a in
        let z : ◌≡◌ {A = ℕ} 0 1 = cc in
        omega arith
    go (higher h) =
        let n = nat_greater x y h in
        let z : ◌≡◌ {A = ℕ} 0 1 = cc in
        omega arith

pub nat_orders : Orders cmp_nat
nat_orders = record {
  same = λ a. nat_same a a (omega arith) (omega arith);
  equal = nat_equal;
  flips = nat_flips;
  chain = λ a b c p q. nat_less a c (lt_trans (nat_lower a b p) (nat_lower b c q));
}

-- ---- lists
less_cases : (w v : Ordering) → and_then w v ≡ Less → (w ≡ Less) ⊎ ((w ≡ Equal) × (v ≡ Less))
less_cases Less v e = inl refl
less_cases Equal v e = inr (refl, e)
less_cases Greater v e = inl e

pub equal_cases : (w v : Ordering) → and_then w v ≡ Equal → (w ≡ Equal) × (v ≡ Equal)
equal_cases Less v e = (e, cc)
equal_cases Equal v e = (refl, e)
equal_cases Greater v e = (e, cc)

flip_then : (w v : Ordering) → and_then (flip w) (flip v) ≡ flip (and_then w v)
flip_then Less v = refl
flip_then Equal v = refl
flip_then Greater v = refl

module _ {K : Type 0} (cmp : K → K → Ordering) (L : Orders cmp) where
  lex_same : (a : List K) → lex cmp a a ≡ Equal
  unfolding lex
  lex_same [] = refl
  lex_same (x ∷ xs) = rw (L.same x) (lex_same xs)

  lex_equal : (a b : List K) → lex cmp a b ≡ Equal → a ≡ b
  unfolding lex
  lex_equal [] [] e = refl
  lex_equal [] (y ∷ ys) e = cc
  lex_equal (x ∷ xs) [] e = cc
  lex_equal (x ∷ xs) (y ∷ ys) e =
      let p = equal_cases (cmp x y) (lex cmp xs ys) e in
      let h = L.equal x y p.0 in
      let t = lex_equal xs ys p.1 in
      cc

  lex_flips : (a b : List K) → lex cmp b a ≡ flip (lex cmp a b)
  unfolding lex
  lex_flips [] [] = refl
  lex_flips [] (y ∷ ys) = refl
  lex_flips (x ∷ xs) [] = refl
  lex_flips (x ∷ xs) (y ∷ ys) = rw (L.flips x y, lex_flips xs ys) (flip_then (cmp x y) (lex cmp xs ys))

  lex_chain : (a b c : List K) → lex cmp a b ≡ Less → lex cmp b c ≡ Less → lex cmp a c ≡ Less
  unfolding lex
  lex_chain [] [] c p q = q
  lex_chain [] (y ∷ ys) [] p q = cc
  lex_chain [] (y ∷ ys) (z ∷ zs) p q = refl
  lex_chain (x ∷ xs) [] c p q = cc
  lex_chain (x ∷ xs) (y ∷ ys) [] p q = cc
  lex_chain (x ∷ xs) (y ∷ ys) (z ∷ zs) p q =
      go (lex_chain xs ys zs) (less_cases (cmp x y) (lex cmp xs ys) p) (less_cases (cmp y z) (lex cmp ys zs) q)
    where
      go : (lex cmp xs ys ≡ Less → lex cmp ys zs ≡ Less → lex cmp xs zs ≡ Less)
          → (cmp x y ≡ Less) ⊎ ((cmp x y ≡ Equal) × (lex cmp xs ys ≡ Less))
          → (cmp y z ≡ Less) ⊎ ((cmp y z ≡ Equal) × (lex cmp ys zs ≡ Less))
          → and_then (cmp x z) (lex cmp xs zs) ≡ Less
      go ih (inl l) (inl m) = rw (L.chain x y z l m)
      go ih (inl l) (inr m) = let e : cmp x z ≡ Less = rw (← L.equal y z m.0) l in rw e
      go ih (inr l) (inl m) = let e : cmp x z ≡ Less = rw (L.equal x y l.0) m in rw e
      go ih (inr l) (inr m) = let e : cmp x z ≡ Equal = rw (L.equal x y l.0) m.0 in rw e (ih l.1 m.1)

  -- what both begin with does not matter
  pub lex_append : (p a b : List K) → lex cmp (p ++ a) (p ++ b) ≡ lex cmp a b
  unfolding lex
  lex_append [] a b = refl
  lex_append (x ∷ p) a b = rw (L.same x) (lex_append p a b)

  pub lex_orders : Orders (lex cmp)
  lex_orders = record { same = lex_same; equal = lex_equal; flips = lex_flips; chain = lex_chain }

pub byte_orders : Orders byte_order
byte_orders = lex_orders cmp_nat nat_orders
