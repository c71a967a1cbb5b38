-- Lists of paths: whether a path is one of them, those that are missing, and two lists joined.
use Prim.Native.Nat.{ℕ, suc, ◌+◌, ◌≤◌}
use mathlib.Core.Path.{◌≡◌, refl, sym, ap, ◌∙◌}
use mathlib.Core.Logic.{◌⊎◌, inl, inr, ⊎_elim}
use mathlib.Core.List.Memᴰ
use mathlib.Core.List.{List, [], ◌∷◌, ◌++◌}
use mathlib.Core.Bool.{Bool, true, false, cond, false≢true, ◌||◌}
use lib.ListN.{length, length-append}
use native.Mathlib.Omega.{arith}
use Rattle.lists.specs.Bools.{not_both}
use Rattle.lists.specs.Distinct.{In, Distinct, distinct_append}
use Rattle.lists.specs.Distinct.Distinct.{none, more}
use Rattle.path.specs.Path.{components, same_path, normal, ancestors}
use Rattle.path.proofs.Theorems.{same_path_lem, components_normal, same_normal}
use Rattle.path.proofs.Ancestors.{ancestor_normal}
use Rattle.dir_rows.specs.Dirs.{Normals, Dirs, has_path, absent, joined}
use Rattle.dir_rows.specs.Rows.{Short}

-- ---- one of the directories

-- whether a path is one of them depends on its components alone
pub has_same : (ds : List (List ℕ)) (p q : List ℕ) → components p ≡ components q → has_path ds p ≡ has_path ds q
unfolding has_path same_path
has_same [] p q e = refl
has_same (d ∷ ds) p q e = rw (e, has_same ds p q e)

pub has_normal : (ds : List (List ℕ)) (p : List ℕ) → has_path ds (normal p) ≡ has_path ds p
has_normal ds p = has_same ds (normal p) p (components_normal p)

pub has_append : (ds es : List (List ℕ)) (q : List ℕ) → has_path (ds ++ es) q ≡ (has_path ds q || has_path es q)
unfolding has_path
has_append [] es q = refl
has_append (d ∷ ds) es q = go (same_path d q) (has_append ds es q)
  where
    go : (b : Bool) → has_path (ds ++ es) q ≡ (has_path ds q || has_path es q) → cond b true (has_path (ds ++ es) q) ≡ (cond b true (has_path ds q) || has_path es q)
    go true h = refl
    go false h = h

-- it is if one of them has its components,
pub in_has : (ds : List (List ℕ)) (d q : List ℕ) → In d ds → components d ≡ components q → has_path ds q ≡ true
unfolding has_path
in_has [] d q m e = absurd (Memᴰ.not-nil m)
in_has (x ∷ ds) d q m e = ⊎_elim here (λ t. there (same_path x q) (in_has ds d q t e)) (Memᴰ.cases_cons m)
  where
    here : d ≡ x → cond (same_path x q) true (has_path ds q) ≡ true
    here h = rw ((same_path_lem x q).1 (ap components (sym h) ∙ e))

    there : (b : Bool) → has_path ds q ≡ true → cond b true (has_path ds q) ≡ true
    there true h = refl
    there false h = h

-- and then there is such a one,
pub has_one : (ds : List (List ℕ)) (q : List ℕ) → has_path ds q ≡ true → (d : List ℕ) × In d ds × (components d ≡ components q)
unfolding has_path
has_one [] q h = absurd (false≢true h)
has_one (d ∷ ds) q h = go (same_path d q) refl h (has_one ds q)
  where
    go : (b : Bool) → same_path d q ≡ b → cond b true (has_path ds q) ≡ true
        → (has_path ds q ≡ true → (x : List ℕ) × In x ds × (components x ≡ components q)) → (x : List ℕ) × In x (d ∷ ds) × (components x ≡ components q)
    go true e h ih = (d, Memᴰ.head refl, (same_path_lem d q).0 e)
    go false e h ih = let r = ih h in (r.0, Memᴰ.tail r.1, r.2)

-- in normal spelling, where all of them are
pub has_in : (ds : List (List ℕ)) (q : List ℕ) → Normals ds → has_path ds q ≡ true → In (normal q) ds
has_in ds q n h =
    let r = has_one ds q h in
    Memᴰ.cast (sym ((same_normal r.0 q).1 r.2) ∙ n r.0 r.1) r.1

-- ---- those that are missing

pub absent_in : (ds xs : List (List ℕ)) (x : List ℕ) → In x (absent ds xs) → In x xs × (has_path ds x ≡ false)
unfolding absent
absent_in ds [] x m = absurd (Memᴰ.not-nil m)
absent_in ds (y ∷ xs) x m = go (has_path ds y) refl m (absent_in ds xs x)
  where
    go : (b : Bool) → has_path ds y ≡ b → In x (cond b (absent ds xs) (y ∷ absent ds xs))
        → (In x (absent ds xs) → In x xs × (has_path ds x ≡ false)) → In x (y ∷ xs) × (has_path ds x ≡ false)
    go true e m ih = let r = ih m in (Memᴰ.tail r.0, r.1)
    go false e m ih =
        ⊎_elim (λ h. (Memᴰ.head h, ap (has_path ds) h ∙ e)) (λ t. let r = ih t in (Memᴰ.tail r.0, r.1)) (Memᴰ.cases_cons m)

-- each is there, or missing
held_or_absent : (ds xs : List (List ℕ)) (x : List ℕ) → In x xs → (has_path ds x ≡ true) ⊎ In x (absent ds xs)
unfolding absent
held_or_absent ds [] x m = absurd (Memᴰ.not-nil m)
held_or_absent ds (y ∷ xs) x m = go (has_path ds y) refl (Memᴰ.cases_cons m) (held_or_absent ds xs x)
  where
    go : (b : Bool) → has_path ds y ≡ b → (x ≡ y) ⊎ In x xs → (In x xs → (has_path ds x ≡ true) ⊎ In x (absent ds xs))
        → (has_path ds x ≡ true) ⊎ In x (cond b (absent ds xs) (y ∷ absent ds xs))
    go true e (inl h) ih = inl (ap (has_path ds) h ∙ e)
    go true e (inr m) ih = ih m
    go false e (inl h) ih = inr (Memᴰ.head h)
    go false e (inr m) ih = ⊎_elim inl (λ t. inr (Memᴰ.tail t)) (ih m)

-- where all of xs are there, nothing is missing
pub absent_held : (ds xs : List (List ℕ)) → ((x : List ℕ) → In x xs → has_path ds x ≡ true) → absent ds xs ≡ []
unfolding absent
absent_held ds [] h = refl
absent_held ds (x ∷ xs) h = rw (h x (Memᴰ.head refl)) (absent_held ds xs (λ y m. h y (Memᴰ.tail m)))

-- a path makes no difference to another
pub has_other : (ds : List (List ℕ)) (y x : List ℕ) → (components y ≡ components x → ⊥) → has_path (ds ++ (y ∷ [])) x ≡ has_path ds x
has_other ds y x n = has_append ds (y ∷ []) x ∙ or_none (has_path ds x) (has_path (y ∷ []) x) (one (has_path (y ∷ []) x) refl)
  where
    one : (b : Bool) → has_path (y ∷ []) x ≡ b → b ≡ false
    one true h = let r = has_one (y ∷ []) x h in absurd (n (ap components (sym (Memᴰ.eq_of_singleton r.1)) ∙ r.2))
    one false h = refl

    or_none : (a b : Bool) → b ≡ false → (a || b) ≡ a
    or_none true b h = refl
    or_none false b h = h

pub absent_other : (ds xs : List (List ℕ)) (y : List ℕ) → ((x : List ℕ) → In x xs → components y ≡ components x → ⊥) → absent (ds ++ (y ∷ [])) xs ≡ absent ds xs
unfolding absent
absent_other ds [] y n = refl
absent_other ds (x ∷ xs) y n = rw (has_other ds y x (n x (Memᴰ.head refl)), absent_other ds xs y (λ z m. n z (Memᴰ.tail m)))

pub absent_few : (ds xs : List (List ℕ)) → length (absent ds xs) ≤ length xs
unfolding absent
absent_few ds [] = omega arith
absent_few ds (x ∷ xs) = go (has_path ds x) (absent_few ds xs)
  where
    go : (b : Bool) → length (absent ds xs) ≤ length xs → length (cond b (absent ds xs) (x ∷ absent ds xs)) ≤ suc (length xs)
    go true h = omega arith
    go false h = omega arith

-- ---- joined lists

-- a path that is not there is missing if it is one of ys
has_absent : (ds ys : List (List ℕ)) (q : List ℕ) → has_path ds q ≡ false → has_path (absent ds ys) q ≡ has_path ys q
unfolding has_path absent
has_absent ds [] q h = refl
has_absent ds (y ∷ ys) q h = go (has_path ds y) (same_path y q) refl refl (has_absent ds ys q h)
  where
    go : (s t : Bool) → has_path ds y ≡ s → same_path y q ≡ t → has_path (absent ds ys) q ≡ has_path ys q
        → has_path (cond s (absent ds ys) (y ∷ absent ds ys)) q ≡ cond t true (has_path ys q)
    go true true e f ih = absurd (not_both (has_path ds q) (sym (has_same ds y q ((same_path_lem y q).0 f)) ∙ e) h)
    go true false e f ih = ih
    go false true e f ih = rw f
    go false false e f ih = rw f ih

-- a path is one of the joined list exactly if it is one of the two
pub has_joined : (ds xs : List (List ℕ)) (q : List ℕ) → has_path (joined ds xs) q ≡ (has_path ds q || has_path xs q)
unfolding joined
has_joined ds xs q = has_append ds (absent ds xs) q ∙ go (has_path ds q) refl
  where
    go : (b : Bool) → has_path ds q ≡ b → (b || has_path (absent ds xs) q) ≡ (b || has_path xs q)
    go true h = refl
    go false h = has_absent ds xs q h

pub length_joined : (ds xs : List (List ℕ)) → length (joined ds xs) ≡ length ds + length (absent ds xs)
unfolding joined
length_joined ds xs = length-append ds (absent ds xs)

pub joined_short : (ds xs : List (List ℕ)) → Short ds → Short xs → Short (joined ds xs)
unfolding joined
joined_short ds xs s t d m = ⊎_elim (s d) (λ k. t d (absent_in ds xs d k).0) (Memᴰ.append_cases ds m)

distinct_absent : (ds : List (List ℕ)) {xs : List (List ℕ)} → Distinct xs → Distinct (absent ds xs)
unfolding absent
distinct_absent ds none = none
distinct_absent ds (more {x = x} {xs = xs} f t) = go (has_path ds x) (distinct_absent ds t)
  where
    go : (b : Bool) → Distinct (absent ds xs) → Distinct (cond b (absent ds xs) (x ∷ absent ds xs))
    go true ih = ih
    go false ih = more (λ m. f (absent_in ds xs x m).0) ih

in-joined : (ds xs : List (List ℕ)) → Normals ds → (a : List ℕ) → normal a ≡ a → In a xs → In a (joined ds xs)
unfolding joined
in-joined ds xs n a e m =
    ⊎_elim (λ h. Memᴰ.append_left (absent ds xs) (Memᴰ.cast (sym e) (has_in ds a n h))) (λ k. Memᴰ.append_right ds k) (held_or_absent ds xs a m)

-- no directories
pub no_dirs : Dirs []
no_dirs = record { normals = λ d m. absurd (Memᴰ.not-nil m); once = none; closed = λ d a m k. absurd (Memᴰ.not-nil m) }

-- directories joined with directories are directories
pub joined_dirs : (ds xs : List (List ℕ)) → Dirs ds → Dirs xs → Dirs (joined ds xs)
unfolding joined
joined_dirs ds xs D X = record { normals = plain; once = single; closed = shut }
  where
    plain : Normals (joined ds xs)
    plain d m = ⊎_elim (D.normals d) (λ k. X.normals d (absent_in ds xs d k).0) (Memᴰ.append_cases ds m)

    single : Distinct (joined ds xs)
    single = distinct_append (absent ds xs) D.once (distinct_absent ds X.once) (λ e m k. not_both (has_path ds e) (in_has ds e e k refl) (absent_in ds xs e m).1)

    shut : (d a : List ℕ) → In d (joined ds xs) → In a (ancestors d) → In a (joined ds xs)
    shut d a m k =
        ⊎_elim (λ t. Memᴰ.append_left (absent ds xs) (D.closed d a t k))
        (λ t. in-joined ds xs D.normals a (ancestor_normal d a k) (X.closed d a (absent_in ds xs d t).0 k)) (Memᴰ.append_cases ds m)
