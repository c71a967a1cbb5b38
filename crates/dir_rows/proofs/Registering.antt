-- What registering does to a pool's directories: they stay such as 01 asks for, each ancestor is one of them then and nothing else is, and the way
-- that the Rust goes leads to the same list.
use Prim.Native.Nat.{ℕ, zero, suc, ◌+◌, ◌-◌, ◌≤◌, ◌<◌}
use mathlib.Core.Path.{◌≡◌, refl, sym, ap, ◌∙◌, subst}
use mathlib.Core.Logic.{⊎_elim}
use mathlib.Core.List.Memᴰ
use mathlib.Core.List.{List, [], ◌∷◌, ◌++◌, map, append_assoc, append-nil}
use mathlib.Core.Bool.{Bool, true, false, not, cond, false≢true, ◌||◌}
use lib.ListN.{length, length-append, length-map}
use native.Mathlib.Omega.{arith}
use Rattle.limits.specs.Limits.{max_path}
use Rattle.lists.specs.Bools.{or_left, or_right}
use Rattle.lists.specs.Distinct.{In, Distinct}
use Rattle.lists.specs.Distinct.Distinct.{none, more}
use Rattle.path.specs.Path.{components, normal, join, init, is_root, idle, parent_of, fronts, ancestors}
use Rattle.path.proofs.Parts.{AllNamed, Formed, formed}
use Rattle.path.proofs.Theorems.{components_normal, same_normal, normal_normal, normal_short}
use Rattle.path.proofs.Ancestors.{ancestors_parent, ancestors_none, parent_fewer, ancestors_same, ancestors_up, ancestor_normal, ancestor_short, ancestors_distinct, ancestor_of, front_shorter}
use Rattle.dir_rows.specs.Dirs.{Normals, Dirs, has_path, absent, joined, registered, registered_with, joined_each, joined_until}
use Rattle.dir_rows.specs.Rows.{Short}
use Rattle.dir_rows.proofs.Joined.{has_normal, has_append, has_other, in_has, has_in, has_joined, length_joined, joined_dirs}
use Rattle.dir_rows.proofs.Joined.{absent_held, absent_other, absent_few}

-- ---- a path and its ancestors

-- normal spellings of one path are the same bytes
same_bytes_lem : (a b : List ℕ) → normal a ≡ a → normal b ≡ b → components a ≡ components b → a ≡ b
same_bytes_lem a b e f c = sym e ∙ (same_normal a b).1 c ∙ f

-- no path is its own ancestor
not_own : (p : List ℕ) → In (normal p) (ancestors p) → ⊥
not_own p m = omega (arith, front_shorter (components (normal p)) (components p) (ancestor_of p (normal p) m).front, ap length (components_normal p))

own_other : (p a : List ℕ) → In a (ancestors p) → components (normal p) ≡ components a → ⊥
own_other p a m e = not_own p (Memᴰ.cast (same_bytes_lem (normal p) a (normal_normal p) (ancestor_normal p a m) e) m)

-- the ancestors of a path are such directories as 01 asks for,
pub ancestors_dirs : (p : List ℕ) → Dirs (ancestors p)
ancestors_dirs p = record { normals = ancestor_normal p; once = ancestors_distinct p; closed = ancestors_up p }

-- and so are they with the path
pub path_dirs : (p : List ℕ) → Dirs (normal p ∷ ancestors p)
path_dirs p = record { normals = plain; once = more (not_own p) (ancestors_distinct p); closed = shut }
  where
    plain : Normals (normal p ∷ ancestors p)
    plain d m = ⊎_elim (λ e. ap normal e ∙ normal_normal p ∙ sym e) (ancestor_normal p d) (Memᴰ.cases_cons m)

    shut : (d a : List ℕ) → In d (normal p ∷ ancestors p) → In a (ancestors d) → In a (normal p ∷ ancestors p)
    shut d a m k =
        Memᴰ.tail
        (⊎_elim (λ e. subst (λ (l : List (List ℕ)). In a l) (ancestors_same d p (ap components e ∙ components_normal p)) k) (λ t. ancestors_up p d a t k) (Memᴰ.cases_cons m))

-- They fit their rows where the path does.
pub path_short : (p : List ℕ) → length (normal p) ≤ max_path → Short (normal p ∷ ancestors p)
path_short p h d m = ⊎_elim (λ e. omega (arith, ap length e)) (λ k. omega (arith, ancestor_short p d k)) (Memᴰ.cases_cons m)

pub ancestors_short : (p : List ℕ) → length (normal p) ≤ max_path → Short (ancestors p)
ancestors_short p h d m = path_short p h d (Memᴰ.tail m)

-- ---- how many

length_fronts : (cs : List (List ℕ)) → length (fronts cs) ≡ length cs - 1
unfolding fronts
length_fronts [] = omega arith
length_fronts (c ∷ []) = omega arith
length_fronts (c ∷ d ∷ cs) =
    length-append (map (λ (x : List (List ℕ)). c ∷ x) (fronts (d ∷ cs))) ((c ∷ []) ∷ [])
    ∙ omega (arith, length-map (fronts (d ∷ cs)) (λ (x : List (List ℕ)). c ∷ x), length_fronts (d ∷ cs))

-- components are not empty
named_long : (w : Bool) (cs : List (List ℕ)) → AllNamed cs → length cs ≤ length (join w cs)
unfolding join idle
named_long w [] n = omega arith
named_long w ([] ∷ cs) n = absurd (false≢true (sym n.1))
named_long w ((b ∷ c) ∷ cs) n = simp length-append (omega (arith, named_long (not (is_root (b ∷ c))) cs n.2))

formed_long : (cs : List (List ℕ)) → Formed cs → length cs ≤ length (join false cs)
unfolding join
formed_long [] n = omega arith
formed_long ([] ∷ cs) n = absurd n.0
formed_long ((b ∷ c) ∷ cs) n = simp length-append (omega (arith, named_long (not (is_root (b ∷ c))) cs n.1))

-- No more ancestors are missing than the path has bytes behind its first.
pub missing_few : (ds : List (List ℕ)) (p : List ℕ) → length (absent ds (ancestors p)) ≤ length p - 1
unfolding ancestors normal
missing_few ds p =
    omega (
      arith,
      absent_few ds (ancestors p),
      length-map (fronts (components p)) (join false),
      length_fronts (components p),
      formed_long (components p) (formed p),
      normal_short p,
    )

-- ---- registering

module _ (ds : List (List ℕ)) (p : List ℕ) where
  -- A pool's directories stay such.
  pub registered_dirs : Dirs ds → Dirs (registered ds p)
  registered_dirs D = joined_dirs ds (ancestors p) D (ancestors_dirs p)

  pub registered_with_dirs : Dirs ds → Dirs (registered_with ds p)
  registered_with_dirs D = joined_dirs ds (normal p ∷ ancestors p) D (path_dirs p)

  -- Every ancestor is one of them then,
  pub registered_all : (a : List ℕ) → In a (ancestors p) → has_path (registered ds p) a ≡ true
  registered_all a m = has_joined ds (ancestors p) a ∙ or_right (has_path ds a) (has_path (ancestors p) a) (in_has (ancestors p) a a m refl)

  -- and nothing is that was none and is no ancestor.
  pub registered_only : (q : List ℕ) → has_path (registered ds p) q ≡ (has_path ds q || has_path (ancestors p) q)
  registered_only = has_joined ds (ancestors p)

  pub registered_with_only : (q : List ℕ) → has_path (registered_with ds p) q ≡ (has_path ds q || has_path (normal p ∷ ancestors p) q)
  registered_with_only = has_joined ds (normal p ∷ ancestors p)

  -- There are as many more as were missing.
  pub length_registered : length (registered ds p) ≡ length ds + length (absent ds (ancestors p))
  length_registered = length_joined ds (ancestors p)

  pub length_registered_with : length (registered_with ds p) ≡ length ds + length (absent ds (normal p ∷ ancestors p))
  length_registered_with = length_joined ds (normal p ∷ ancestors p)

  -- Only the path's components matter.
  pub registered_same : (q : List ℕ) → components p ≡ components q → registered ds p ≡ registered ds q
  registered_same q e = rw (ancestors_same p q e)

  pub registered_with_same : (q : List ℕ) → components p ≡ components q → registered_with ds p ≡ registered_with ds q
  registered_with_same q e = rw (ancestors_same p q e, (same_normal p q).1 e)

  -- The path itself is there already, or is missing, too,
  pub absent_held_path : has_path ds p ≡ true → absent ds (normal p ∷ ancestors p) ≡ absent ds (ancestors p)
  unfolding absent
  absent_held_path h = rw (has_normal ds p, h)

  pub absent_new_path : has_path ds p ≡ false → absent ds (normal p ∷ ancestors p) ≡ normal p ∷ absent ds (ancestors p)
  unfolding absent
  absent_new_path h = rw (has_normal ds p, h)

  -- and it may be added first.
  pub with_held : has_path ds p ≡ true → registered_with ds p ≡ registered ds p
  unfolding joined
  with_held h = rw (absent_held_path h)

  pub with_new : has_path ds p ≡ false → registered_with ds p ≡ registered (ds ++ (normal p ∷ [])) p
  unfolding joined
  with_new h = rw (absent_new_path h, absent_other ds (ancestors p) (normal p) (own_other p), append_assoc)

  -- Every ancestor of a directory is one,
  pub ancestors_held : Dirs ds → has_path ds p ≡ true → (a : List ℕ) → In a (ancestors p) → has_path ds a ≡ true
  ancestors_held D h a m =
      let e : ancestors (normal p) ≡ ancestors p = ancestors_same (normal p) p (components_normal p) in
      in_has ds a a (D.closed (normal p) a (has_in ds p D.normals h) (subst (λ (l : List (List ℕ)). In a l) (sym e) m)) refl

  -- so none is missing.
  pub registered_held : Dirs ds → has_path ds p ≡ true → registered ds p ≡ ds
  unfolding joined
  registered_held D h = rw (absent_held ds (ancestors p) (ancestors_held D h)) (append-nil ds)

-- ---- up the ancestors

-- the ancestors of a path are the first of them and its ancestors
data Chain : List (List ℕ) → Type 0 where
  top : Chain []
  under : {x : List ℕ} {xs : List (List ℕ)} → ancestors x ≡ xs → Chain xs → Chain (x ∷ xs)

some_parent : (p : List ℕ) → (parent_of p ≡ [] → ⊥) → 0 < length (components p)
unfolding parent_of init join
some_parent p n = go (components p) refl
  where
    go : (cs : List (List ℕ)) → components p ≡ cs → 0 < length cs
    go [] e = absurd (n (rw e))
    go (c ∷ cs) e = omega arith

-- from the parent's
chain_up : (p : List ℕ) → ((parent_of p ≡ [] → ⊥) → Chain (ancestors (parent_of p))) → Chain (ancestors p)
chain_up p ih = go (parent_of p) refl
  where
    go : (u : List ℕ) → parent_of p ≡ u → Chain (ancestors p)
    go [] e = subst Chain (sym (ancestors_none p e)) top
    go (b ∷ t) e =
        let n : parent_of p ≡ [] → ⊥ = λ q. omega (arith, ap length e, ap length q) in
        subst Chain (sym (ancestors_parent p n)) (under refl (ih n))

chain_below : (k : ℕ) (p : List ℕ) → length (components p) ≤ k → Chain (ancestors p)
chain_below zero p h = chain_up p (λ n. absurd (omega (arith, some_parent p n)))
chain_below (suc k) p h = chain_up p (λ n. chain_below k (parent_of p) (omega (arith, parent_fewer p (some_parent p n))))

chain : (p : List ℕ) → Chain (ancestors p)
chain p = chain_below (length (components p)) p (omega arith)

-- Directories that hold the nearest ancestor of each hold all of them: only that one need be looked for.
pub closed_by_parents : (ds : List (List ℕ)) → ((d a : List ℕ) (t : List (List ℕ)) → In d ds → ancestors d ≡ a ∷ t → In a ds)
    → (d a : List ℕ) → In d ds → In a (ancestors d) → In a ds
closed_by_parents ds h d a m k = climb (chain d) d m refl k
  where
    climb : {xs : List (List ℕ)} → Chain xs → (x : List ℕ) → In x ds → ancestors x ≡ xs → In a xs → In a ds
    climb top x n e t = absurd (Memᴰ.not-nil t)
    climb (under {x = y} {xs = ys} f c) x n e t =
        let u : In y ds = h x y ys n e in
        ⊎_elim (λ q. Memᴰ.cast q u) (climb c y u f) (Memᴰ.cases_cons t)

-- ---- other ways to the same list

-- of distinct normal spellings the first is none of the others
first_other : {x : List ℕ} {xs : List (List ℕ)} → (In x xs → ⊥) → Normals (x ∷ xs) → (y : List ℕ) → In y xs → components x ≡ components y → ⊥
first_other {x} {xs} f n y m e =
    f (Memᴰ.cast (same_bytes_lem x y (n x (Memᴰ.head refl)) (n y (Memᴰ.tail m)) e) m)

each : (ds : List (List ℕ)) {xs : List (List ℕ)} → Distinct xs → Normals xs → joined_each ds xs ≡ joined ds xs
unfolding joined_each joined absent
each ds none n = sym (append-nil ds)
each ds (more {x = x} {xs = xs} f t) n = go (has_path ds x) (λ es. each es t (λ d m. n d (Memᴰ.tail m)))
  where
    go : (b : Bool) → ((es : List (List ℕ)) → joined_each es xs ≡ joined es xs)
        → joined_each (cond b ds (ds ++ (x ∷ []))) xs ≡ ds ++ cond b (absent ds xs) (x ∷ absent ds xs)
    go true ih = ih ds
    go false ih = ih (ds ++ (x ∷ [])) ∙ rw (absent_other ds xs x (first_other f n), append_assoc)

-- Paths that are missing may be added one by one.
pub one_by_one : (ds xs : List (List ℕ)) → Dirs xs → joined_each ds xs ≡ joined ds xs
one_by_one ds xs X = each ds X.once X.normals

-- where one of xs is one of es, all behind it are
abbrev Upward : List (List ℕ) → List (List ℕ) → Type 0
Upward es xs = (x a : List ℕ) → In x xs → has_path es x ≡ true → In a (ancestors x) → has_path es a ≡ true

upward_more : (es : List (List ℕ)) {x : List ℕ} {xs : List (List ℕ)} → ((y : List ℕ) → In y xs → components x ≡ components y → ⊥) → Upward es (x ∷ xs) → Upward (es ++ (x ∷ [])) xs
upward_more es {x} {xs} o u y a m h k =
    has_append es (x ∷ []) a ∙ or_left (has_path es a) (has_path (x ∷ []) a) (u y a (Memᴰ.tail m) (sym (has_other es x y (o y m)) ∙ h) k)

until : (es : List (List ℕ)) {xs : List (List ℕ)} → Chain xs → Distinct xs → Normals xs → Upward es xs → joined_until es xs ≡ joined es xs
unfolding joined_until joined absent
until es top t n u = sym (append-nil es)
until es (under {x = x} {xs = xs} e c) (more f t) n u = go (has_path es x) refl (until (es ++ (x ∷ [])) c t (λ d m. n d (Memᴰ.tail m)) (upward_more es (first_other f n) u))
  where
    go : (b : Bool) → has_path es x ≡ b → joined_until (es ++ (x ∷ [])) xs ≡ joined (es ++ (x ∷ [])) xs
        → cond b es (joined_until (es ++ (x ∷ [])) xs) ≡ es ++ cond b (absent es xs) (x ∷ absent es xs)
    go true h ih = rw (absent_held es xs (λ y m. u x y (Memᴰ.head refl) h (subst (λ (l : List (List ℕ)). In y l) (sym e) m))) (sym (append-nil es))
    go false h ih = ih ∙ rw (absent_other es xs x (first_other f n), append_assoc)

upward : (ds xs : List (List ℕ)) → Dirs ds → Upward ds xs
upward ds xs D x a m h k = ancestors_held ds x D h a k

-- The Rust stops at the first ancestor that is a directory. As directories hold every ancestor of each, nothing behind it is missing.
pub stops_early_same : (ds : List (List ℕ)) (p : List ℕ) → Dirs ds → joined_until ds (ancestors p) ≡ registered ds p
stops_early_same ds p D = until ds (chain p) (ancestors_distinct p) (ancestor_normal p) (upward ds (ancestors p) D)

-- So does the Rust's create_dir_all, once the path itself is there.
pub stops_early_with : (ds : List (List ℕ)) (p : List ℕ) → Dirs ds → joined_until (joined ds (normal p ∷ [])) (ancestors p) ≡ registered_with ds p
unfolding joined absent
stops_early_with ds p D = go (has_path ds (normal p)) refl
  where
    go : (b : Bool) → has_path ds (normal p) ≡ b
        → joined_until (ds ++ cond b [] (normal p ∷ [])) (ancestors p) ≡ ds ++ cond b (absent ds (ancestors p)) (normal p ∷ absent ds (ancestors p))
    go true h = rw (append-nil ds) (stops_early_same ds p D)
    go false h =
        until (ds ++ (normal p ∷ [])) (chain p) (ancestors_distinct p) (ancestor_normal p) (upward_more ds (own_other p) (upward ds (normal p ∷ ancestors p) D))
        ∙ rw (absent_other ds (ancestors p) (normal p) (own_other p), append_assoc)

-- how many of a path and its ancestors are missing
pub ruleset missing_paths = (missing_few, absent_held_path, absent_new_path)
