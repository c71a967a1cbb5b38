-- Directories judged from their last component: cut at a slash, a text is normal exactly if both of its pieces are. So a directory is normal if its
-- parent's row is, and by the lengths of the rows all of them are.
use Prim.Native.Nat.{ℕ, zero, suc, ◌+◌, ◌≤◌, ◌<◌}
use mathlib.Core.Path.{◌≡◌, refl, sym, ap, ap₂, subst, ◌∙◌}
use mathlib.Core.Logic.{◌⊎◌, inl, inr}
use mathlib.Core.List.{List, [], ◌∷◌, ◌++◌}
use mathlib.Core.Bool.{Bool, true, false, not, cond, ◌&&◌, ◌||◌, false≢true}
use native.Mathlib.Omega.{arith}
use lib.Dec.{eqb}
use lib.ListN.{length, get_or, take, drop, length-drop, take-append-drop}
use lib.Seq.{length-take-le, drop-cons}
use borrow.Author.Tests.{eq-eqb, ne_eqb, le-ltb}
use Rattle.lists.specs.Runs.{all_of, tab, all_at, all_intro, any_not}
use Rattle.lists.specs.Same.{same_bytes, same_bytes_refl, same_bytes_eq}
use Rattle.lists.specs.Distinct.{In}
use Rattle.path.specs.Path.{components, normal, ancestors}
use Rattle.path.specs.Walk.{Above, up_from}
use Rattle.path.specs.Spelling.{idle_slash, has_idle, is_normal}
use Rattle.path.proofs.SpellingLaws.{normal_by_bytes}
use Rattle.path.proofs.Slashes.{short}
use Rattle.dir_rows.specs.Dirs.{has_path}
use Rattle.dir_rows.specs.Rows.{dir_at, dirs_of}
use Rattle.dir_rows.proofs.Joined.{in_has, has_in, has_normal}
use Rattle.pool_test.specs.Test.{cut_out, first_held, up_held, dir_ok}
use Rattle.pool_test.specs.Keys.{is_dir, has_dir, Tail, Upright, Fine, Judged}
use Rattle.pool_test.proofs.FlatForms.{both, and_of, part_rest}
use Rattle.pool_test.proofs.Exactly.{in_dirs, dirs_in_lem, dir_says, normals, fresh}
use Rattle.pool_test.proofs.Turns.{any_one}
use denote.Param.Members.{Mut}
use Rattle.std.specs.Bool.{MatchBool}
use Rattle.std.specs.Fn.{Called}
use Rattle.std.specs.Iterator.{ChecksAll}
use Rattle.std.specs.List.{AllWithin, HoldsAt, range_with_len}
use Rattle.std.proofs.iter.Yields.{nat_range_steps}
use Rattle.std.proofs.lemmas.Iterator.{YieldsList-from_range, cases_from_all}
use Rattle.std.proofs.lemmas.List.FromFn.{length-range_with_len, get_or-range_with_len}

-- ---- a text cut at a slash

or_assoc : (a b c : Bool) → (a || (b || c)) ≡ ((a || b) || c)
or_assoc true b c = refl
or_assoc false b c = refl

-- the end of a text counts as a slash, so a slash may follow
idle_cut : (p c : List ℕ) → has_idle (p ++ 47 ∷ c) ≡ (has_idle p || has_idle (47 ∷ c))
unfolding has_idle idle_slash
idle_cut [] c = refl
idle_cut (a ∷ []) c = go (eqb a 47) (has_idle (47 ∷ c))
  where
    go : (t r : Bool) → ((t && true) || r) ≡ (((t && true) || false) || r)
    go true r = refl
    go false r = refl
idle_cut (a ∷ b ∷ []) c = ap (λ (t : Bool). idle_slash a b 47 || t) (idle_cut (b ∷ []) c) ∙ or_assoc (idle_slash a b 47) (has_idle (b ∷ [])) (has_idle (47 ∷ c))
idle_cut (a ∷ b ∷ d ∷ p) c = ap (λ (t : Bool). idle_slash a b d || t) (idle_cut (b ∷ d ∷ p) c) ∙ or_assoc (idle_slash a b d) (has_idle (b ∷ d ∷ p)) (has_idle (47 ∷ c))

told : (s : List ℕ) → 2 ≤ length s → same_bytes (normal s) s ≡ not (has_idle s)
unfolding is_normal
told s h = normal_by_bytes s ∙ ap (λ (t : Bool). cond t true (not (has_idle s))) (le-ltb (length s) 2 h)

not_or : (a b : Bool) → not (a || b) ≡ (not a && not b)
not_or true b = refl
not_or false b = refl

normal_cut : (x : List ℕ) (e : ℕ) → 2 ≤ e → e + 2 ≤ length x → get_or x e 0 ≡ 47
    → same_bytes (normal x) x ≡ (same_bytes (normal (take e x)) (take e x) && same_bytes (normal (drop e x)) (drop e x))
normal_cut x e h k s =
    let d : drop e x ≡ 47 ∷ drop (suc e) x = drop-cons x e 0 (omega arith) ∙ ap (λ (b : ℕ). b ∷ drop (suc e) x) s in
    let w : x ≡ take e x ++ 47 ∷ drop (suc e) x = sym (take-append-drop e x) ∙ ap (λ (t : List ℕ). take e x ++ t) d in
    let i : has_idle x ≡ (has_idle (take e x) || has_idle (drop e x)) =
    ap has_idle w ∙ idle_cut (take e x) (drop (suc e) x) ∙ ap (λ (t : List ℕ). has_idle (take e x) || has_idle t) (sym d) in
    told x (omega arith)
    ∙ ap not i
    ∙ not_or (has_idle (take e x)) (has_idle (drop e x))
    ∙ sym (ap₂ (λ (t u : Bool). t && u) (told (take e x) (rw (length-take-le e x (omega arith)) h)) (told (drop e x) (rw (length-drop e x) (omega arith))))

-- ---- one directory that fails

-- a row that is p is found among the paths
found : (b : List ℕ) (n : ℕ) (p : List ℕ) → has_dir b n p ≡ true → (i : ℕ) × (i < n) × (dir_at b i ≡ p)
unfolding is_dir
found b n p e = let r = any_one (is_dir b p) 0 n e in (r.0, omega (arith, r.2), same_bytes_eq _ _ r.3)

path_found : (b : List ℕ) (n : ℕ) (p : List ℕ) → has_dir b n p ≡ true → has_path (dirs_of b n) p ≡ true
unfolding dirs_of
path_found b n p e = let r = found b n p e in in_has (tab (dir_at b) 0 n) (dir_at b r.0) p (dirs_in_lem b 0 n r.0 (omega arith) (omega (arith, r.1))) (ap components r.2)

-- the nearest ancestor ends where `above` says
up_none : (ds : List (List ℕ)) (x : List ℕ) (e : ℕ) → Above x e → e ≡ 0 → up_held ds x ≡ true
unfolding first_held up_from
up_none ds x e A z = ap (first_held ds) A.gives ∙ ap (λ (t : Bool). first_held ds (cond t [] (normal (take e x) ∷ ancestors (take e x)))) (eq-eqb e 0 z)

up_some : (ds : List (List ℕ)) (x : List ℕ) (e : ℕ) → Above x e → (e ≡ 0 → ⊥) → up_held ds x ≡ has_path ds (take e x)
unfolding first_held up_from
up_some ds x e A z =
    ap (first_held ds) A.gives ∙ ap (λ (t : Bool). first_held ds (cond t [] (normal (take e x) ∷ ancestors (take e x)))) (ne_eqb e 0 z) ∙ has_normal ds (take e x)

-- ---- one directory

module _ (b : List ℕ) (m j : ℕ) (inside : j < m) (x : List ℕ) (own : x ≡ dir_at b j) where
  all : Bool
  all = all_of (dir_ok b m) 0 m

  told_own : same_bytes (normal x) x ≡ true → normal (dir_at b j) ≡ dir_at b j
  told_own e = subst (λ (p : List ℕ). normal p ≡ p) own (same_bytes_eq _ _ e)

  own_told : normal (dir_at b j) ≡ dir_at b j → same_bytes (normal x) x ≡ true
  own_told e = rw own (ap (λ (p : List ℕ). same_bytes p (dir_at b j)) e ∙ same_bytes_refl (dir_at b j))

  -- if all pass, this one does
  says : all ≡ true → (normal (dir_at b j) ≡ dir_at b j) × (has_path (dirs_of b j) (dir_at b j) ≡ false) × (up_held (dirs_of b m) (dir_at b j) ≡ true)
  unfolding all
  says u = dir_says b m j (all_at (dir_ok b m) 0 m j u (omega arith) (omega arith))

  -- so they don't if it is not normal, or not the first, or its parent is missing
  unless : (all ≡ true → ⊥) → all ≡ false
  unless n = go all refl
    where
      go : (t : Bool) → all ≡ t → t ≡ false
      go true u = absurd (n u)
      go false u = refl

  broken : same_bytes (normal x) x ≡ false → all ≡ false
  broken n = unless (λ u. false≢true (sym n ∙ own_told (says u).0))

  module _ (e k : ℕ) (T : Tail x e k) where
    pub tail_no : same_bytes (normal (cut_out x k (length x))) (cut_out x k (length x)) ≡ false → all_of (dir_ok b m) 0 m ≡ false
    unfolding all
    tail_no h = go T
      where
        n : same_bytes (normal (drop k x)) (drop k x) ≡ false
        n = rw (part_rest x k) at h

        last_no : (p q : Bool) → q ≡ false → (p && q) ≡ false
        last_no true q h = h
        last_no false q h = refl

        go : Tail x e k → all_of (dir_ok b m) 0 m ≡ false
        go (inl z) = broken (subst (λ (i : ℕ). same_bytes (normal (drop i x)) (drop i x) ≡ false) z n)
        go (inr t) =
            broken (normal_cut x e t.1 t.2 t.3 ∙ last_no (same_bytes (normal (take e x)) (take e x)) _ (subst (λ (i : ℕ). same_bytes (normal (drop i x)) (drop i x) ≡ false) t.0 n))

    module _ (A : Above x e) (lent : same_bytes (normal (cut_out x k (length x))) (cut_out x k (length x)) ≡ true) where
      N : same_bytes (normal (drop k x)) (drop k x) ≡ true
      N = rw (part_rest x k) at lent

      -- looked at as a whole
      whole : k ≡ 0 → normal (dir_at b j) ≡ dir_at b j
      whole z = told_own (subst (λ (i : ℕ). same_bytes (normal (drop i x)) (drop i x) ≡ true) z N)

      not_cut : e < 2 → k ≡ 0
      not_cut h = go T
        where
          go : Tail x e k → k ≡ 0
          go (inl z) = z
          go (inr t) = absurd (omega (arith, t.1))

      pub up_root : e ≡ 0 → Upright b m j
      up_root z = record { tidy = inl (whole (not_cut (omega arith))); held = subst (λ (p : List ℕ). up_held (dirs_of b m) p ≡ true) own (up_none (dirs_of b m) x e A z) }

      module _ (some : e ≡ 0 → ⊥) where
        up_own : up_held (dirs_of b m) (dir_at b j) ≡ has_path (dirs_of b m) (take e x)
        up_own = ap (up_held (dirs_of b m)) (sym own) ∙ up_some (dirs_of b m) x e A some

        -- no row is the front, and the front is normal if all pass
        missing : (all ≡ true → normal (take e x) ≡ take e x) → has_dir b m (take e x) ≡ false → all ≡ false
        unfolding all is_dir dirs_of
        missing n h =
            unless (λ u.
            let i = has_in (dirs_of b m) (take e x) (normals b m u) (sym up_own ∙ (says u).2) in
            let r = in_dirs b 0 m (take e x) (subst (λ (p : List ℕ). In p (dirs_of b m)) (n u) i) in
            false≢true (sym (any_not (is_dir b (take e x)) 0 m r.0 h (omega arith) (omega (arith, r.2)))
            ∙ ap (λ (p : List ℕ). same_bytes p (take e x)) r.3 ∙ same_bytes_refl (take e x)))

        pub up_cut : (r : Bool) → e ≡ k → r ≡ has_dir b m (take e x) → Judged (Upright b m j) b m r
        unfolding all
        up_cut r q h = go T r h
          where
            go : Tail x e k → (r : Bool) → r ≡ has_dir b m (take e x) → Judged (Upright b m j) b m r
            go (inl z) r h = absurd (some (q ∙ z))
            go (inr t) false h =
                missing (λ u. same_bytes_eq _ _ (both (same_bytes (normal (take e x)) (take e x)) _ (sym (normal_cut x e t.1 t.2 t.3) ∙ own_told (says u).0)).0) (sym h)
            go (inr t) true h =
                let f = found b m (take e x) (sym h) in
                let l : length (take e x) ≡ e = length-take-le e x (omega (arith, t.2)) in
                let o : length x ≡ length (dir_at b j) = ap length own in
                let g : length (dir_at b f.0) ≡ length (take e x) = ap length f.2 in
                record {
                  tidy = inr (
                    f.0,
                    f.1,
                    omega (arith, t.2),
                    λ n. told_own (normal_cut x e t.1 t.2 t.3
                        ∙ and_of _ _ (subst (λ (p : List ℕ). same_bytes (normal p) p ≡ true) f.2 (ap (λ (p : List ℕ). same_bytes p (dir_at b f.0)) n ∙ same_bytes_refl (dir_at b f.0)))
                        (subst (λ (i : ℕ). same_bytes (normal (drop i x)) (drop i x) ≡ true) t.0 N)),
                  );
                  held = up_own ∙ path_found b m (take e x) (sym h);
                }

        pub up_one : (r : Bool) → e ≡ 1 → r ≡ has_dir b m (take e x) → Judged (Upright b m j) b m r
        unfolding all
        up_one true q h = record { tidy = inl (whole (not_cut (omega arith))); held = up_own ∙ path_found b m (take e x) (sym h) }
        up_one false q h =
            missing (λ u. same_bytes_eq _ _ (sym (short (take e x) (omega (arith, length-take-le e x A.inside))))) (sym h)

        pub up_find : (r : Bool) → (e ≡ k → ⊥) → r ≡ has_path (dirs_of b m) (take e x) → Judged (Upright b m j) b m r
        unfolding all
        up_find r q h = go T r h
          where
            go : Tail x e k → (r : Bool) → r ≡ has_path (dirs_of b m) (take e x) → Judged (Upright b m j) b m r
            go (inr t) r h = absurd (q (sym t.0))
            go (inl z) true h = record { tidy = inl (whole z); held = up_own ∙ sym h }
            go (inl z) false h = unless (λ u. false≢true (h ∙ sym up_own ∙ (says u).2))

  -- a row before it is the same
  pub seen_no : has_dir b j x ≡ true → all_of (dir_ok b m) 0 m ≡ false
  unfolding all
  seen_no h = unless (λ u. false≢true (sym (says u).1 ∙ path_found b j (dir_at b j) (subst (λ (p : List ℕ). has_dir b j p ≡ true) own h)))

  pub seen_none : (r : Bool) → has_dir b j x ≡ false → Judged (Upright b m j) b m r → Judged (Fine b m j) b m r
  unfolding is_dir
  seen_none false h U = U
  seen_none true h U =
      record {
        upright = U;
        first = λ i l u.
            false≢true (sym (any_not (is_dir b x) 0 j i h (omega arith) (omega arith)) ∙ ap₂ same_bytes u own ∙ same_bytes_refl (dir_at b j));
      }

-- ---- all of them

module _ (b : List ℕ) (m : ℕ) (F : (j : ℕ) → j < m → Fine b m j) where
  -- a row stands on a shorter one, and the shortest on none
  normal_all : (n j : ℕ) → j < m → length (dir_at b j) < n → normal (dir_at b j) ≡ dir_at b j
  normal_all zero j h l = absurd (omega arith)
  normal_all (suc n) j h l = go (F j h).upright.tidy (normal_all n)
    where
      go : (normal (dir_at b j) ≡ dir_at b j) ⊎ ((i : ℕ) × (i < m) × (length (dir_at b i) < length (dir_at b j)) × (normal (dir_at b i) ≡ dir_at b i → normal (dir_at b j) ≡ dir_at b j))
          → ((i : ℕ) → i < m → length (dir_at b i) < n → normal (dir_at b i) ≡ dir_at b i) → normal (dir_at b j) ≡ dir_at b j
      go (inl e) ih = e
      go (inr t) ih = t.3 (ih t.0 t.1 (omega (arith, t.2)))

  normal_row : (j : ℕ) → j < m → normal (dir_at b j) ≡ dir_at b j
  normal_row j h = normal_all (suc (length (dir_at b j))) j h (omega arith)

  passes : (j : ℕ) → j < m → dir_ok b m j ≡ true
  unfolding dir_ok
  passes j h =
      and_of _ _ (ap (λ (p : List ℕ). same_bytes p (dir_at b j)) (normal_row j h) ∙ same_bytes_refl (dir_at b j))
      (and_of _ _ (ap not (fresh b j (λ i l. normal_row i (omega arith)) (F j h).first)) (F j h).upright.held)

  all_fine : true ≡ all_of (dir_ok b m) 0 m
  all_fine = sym (all_intro (dir_ok b m) 0 m (λ j p h. passes j (omega arith)))

module _ (b : List ℕ) (m : ℕ) where
  -- `all` over the directories: each is fine, or one that isn't says it of all
  judged : (r : Bool) → MatchBool r (AllWithin (Fine b m) (range_with_len 0 m) 0 (length (range_with_len 0 m)))
      ((k : ℕ) × (k < length (range_with_len 0 m)) × HoldsAt (λ _. all_of (dir_ok b m) 0 m ≡ false) (range_with_len 0 m) k) → r ≡ all_of (dir_ok b m) 0 m
  judged false h = sym (h.2 0)
  judged true h = all_fine b m (λ j l. let e : get_or (range_with_len 0 m) j 0 ≡ j = omega (arith, get_or-range_with_len 0 m j 0 l) in rw e at (h j 0 (omega arith) (omega (arith, length-range_with_len 0 m))))

  pub all_judged : {G : Type 0} {g : Mut G (ℕ × Unit {0}) Bool} (u : _) (c : G) (r : Bool) → ChecksAll nat_range_steps g (record { start = 0; end = m }) c r u
      → ((x : ℕ) (t : Bool) (q : G) → Called g c (x, tt) t q → (q ≡ c) × Judged (Fine b m x) b m t) → r ≡ all_of (dir_ok b m) 0 m
  all_judged u c r ran says =
      judged r (cases_from_all u c r (Fine b m) (λ _. all_of (dir_ok b m) 0 m ≡ false) ran (YieldsList-from_range 0 m m refl (omega arith)) (λ x q h. says x true q h) (λ x q h. (says x false q h).1))
