-- A normal spelling, told from its bytes: a text is its parts, each but the first behind a slash;
-- a normal spelling lacks the idle ones among them, so it is shorter if there is one.
use Rattle.std.specs.Prelude.{◌≡◌, ℕ, suc, ◌<◌, ◌≤◌, Bool, true, false, cond, not, ◌&&◌, ◌||◌, List, [], ◌∷◌, ◌++◌, length, ◌==◌, nat_eq, slice_index_or, refl}
use Rattle.std.proofs.Common.{sym, ap, subst, ◌∙◌, arith, length-append, eqb-true, le-ltb}
use Rattle.std.proofs.lemmas.Bool.{false≢true}
use Rattle.lists.specs.Same.{same, same_bytes, same_length, same_bytes_refl}
use Rattle.path.specs.Path.{grow, cut, split, idle, names, opening, components, is_root, slash, join, normal}
use Rattle.path.specs.Walk.{rest}
use Rattle.path.proofs.Parts.{AllNamed, Formed, formed, split_run, rest_named, no_root}
use Rattle.path.specs.Spelling.{idle_slash, has_idle, is_normal}

-- ---- the first part and those behind it

abbrev first_of : List (List ℕ) → List ℕ
first_of [] = []
first_of (p ∷ ps) = p

abbrev behind : List (List ℕ) → List (List ℕ)
behind [] = []
behind (p ∷ ps) = ps

first_grow : (b : ℕ) (ps : List (List ℕ)) → first_of (grow b ps) ≡ b ∷ first_of ps
unfolding grow
first_grow b [] = refl
first_grow b (p ∷ ps) = refl

behind_grow : (b : ℕ) (ps : List (List ℕ)) → behind (grow b ps) ≡ behind ps
unfolding grow
behind_grow b [] = refl
behind_grow b (p ∷ ps) = refl

split_some : (s : List ℕ) → split s ≡ first_of (split s) ∷ behind (split s)
split_some s = split_run s ∙ sym (ap (λ (ps : List (List ℕ)). first_of ps ∷ behind ps) (split_run s))

-- parts, each behind a slash
slashed : List (List ℕ) → List ℕ
slashed [] = []
slashed (p ∷ ps) = 47 ∷ (p ++ slashed ps)

slashed_split : (s : List ℕ) → slashed (split s) ≡ 47 ∷ (first_of (split s) ++ slashed (behind (split s)))
unfolding slashed
slashed_split s = ap slashed (split_some s)

-- a text is its first part, and the others behind slashes
whole : (s : List ℕ) → s ≡ first_of (split s) ++ slashed (behind (split s))
unfolding split cut slashed
whole [] = refl
whole (b ∷ s) = go (b == 47) refl (whole s)
  where
    go : (e : Bool) → (b == 47) ≡ e → s ≡ first_of (split s) ++ slashed (behind (split s)) → b ∷ s ≡ first_of (cut e b (split s)) ++ slashed (behind (cut e b (split s)))
    go true h ih = ap (λ (x : ℕ). x ∷ s) (eqb-true b 47 h) ∙ ap (λ (x : List ℕ). 47 ∷ x) ih ∙ sym (slashed_split s)
    go false h ih = ap (λ (x : List ℕ). b ∷ x) ih ∙ rw (first_grow b (split s), behind_grow b (split s))

-- ---- idle parts

abbrev is_nil : List ℕ → Bool
is_nil [] = true
is_nil (b ∷ p) = false

-- the first part is empty where a slash or the end stands
first_nil : (s : List ℕ) → (slice_index_or s 0 47 == 47) ≡ is_nil (first_of (split s))
unfolding split cut
first_nil [] = refl
first_nil (b ∷ s) = go (b == 47)
  where
    go : (e : Bool) → e ≡ is_nil (first_of (cut e b (split s)))
    go true = refl
    go false = rw (first_grow b (split s))

idle_more : (b : ℕ) (p : List ℕ) → (b == 46 && is_nil p) ≡ idle (b ∷ p)
unfolding idle
idle_more b [] = go (b == 46)
  where
    go : (e : Bool) → (e && true) ≡ e
    go true = refl
    go false = refl
idle_more b (c ∷ p) = go (b == 46)
  where
    go : (e : Bool) → (e && false) ≡ false
    go true = refl
    go false = refl

-- two bytes tell whether the first part is idle
first_idle : (s : List ℕ) → (slice_index_or s 0 47 == 47 || (slice_index_or s 0 47 == 46 && slice_index_or s 1 47 == 47)) ≡ idle (first_of (split s))
unfolding split cut idle
first_idle [] = refl
first_idle (b ∷ s) = go (b == 47)
  where
    go : (e : Bool) → (e || (b == 46 && slice_index_or s 0 47 == 47)) ≡ idle (first_of (cut e b (split s)))
    go true = refl
    go false =
        ap (λ (t : Bool). (b == 46) && t) (first_nil s)
        ∙ idle_more b (first_of (split s))
        ∙ ap idle (sym (first_grow b (split s)))

any_idle : List (List ℕ) → Bool
any_idle [] = false
any_idle (p ∷ ps) = idle p || any_idle ps

-- an idle slash is one before an idle part
idle_parts : (s : List ℕ) → has_idle s ≡ any_idle (behind (split s))
unfolding has_idle idle_slash split cut any_idle
idle_parts [] = refl
idle_parts (b ∷ s) = go (b == 47) (idle_parts s)
  where
    go : (e : Bool) → has_idle s ≡ any_idle (behind (split s))
        → ((e && (slice_index_or s 0 47 == 47 || (slice_index_or s 0 47 == 46 && slice_index_or s 1 47 == 47))) || has_idle s) ≡ any_idle (behind (cut e b (split s)))
    go true ih = rw (first_idle s, ih) (sym (ap any_idle (split_some s)))
    go false ih = ih ∙ ap any_idle (sym (behind_grow b (split s)))

-- ---- names

names_all : (ps : List (List ℕ)) → any_idle ps ≡ false → names ps ≡ ps
unfolding names any_idle
names_all [] h = refl
names_all (p ∷ ps) h = go (idle p) h (names_all ps)
  where
    go : (e : Bool) → (e || any_idle ps) ≡ false → (any_idle ps ≡ false → names ps ≡ ps) → cond e (names ps) (p ∷ names ps) ≡ p ∷ ps
    go true h ih = absurd (false≢true (sym h))
    go false h ih = ap (λ (x : List (List ℕ)). p ∷ x) (ih h)

names_short : (ps : List (List ℕ)) → length (slashed (names ps)) ≤ length (slashed ps)
unfolding names slashed
names_short [] = omega arith
names_short (p ∷ ps) = go (idle p) (names_short ps)
  where
    go : (e : Bool) → length (slashed (names ps)) ≤ length (slashed ps) → length (slashed (cond e (names ps) (p ∷ names ps))) ≤ suc (length (p ++ slashed ps))
    go true ih = omega (arith, length-append p (slashed ps))
    go false ih = omega (arith, length-append p (slashed ps), length-append p (slashed (names ps)))

names_shorter : (ps : List (List ℕ)) → any_idle ps ≡ true → length (slashed (names ps)) < length (slashed ps)
unfolding names slashed any_idle
names_shorter [] h = absurd (false≢true h)
names_shorter (p ∷ ps) h = go (idle p) h (names_short ps) (names_shorter ps)
  where
    go : (e : Bool) → (e || any_idle ps) ≡ true → length (slashed (names ps)) ≤ length (slashed ps) → (any_idle ps ≡ true → length (slashed (names ps)) < length (slashed ps))
        → length (slashed (cond e (names ps) (p ∷ names ps))) < suc (length (p ++ slashed ps))
    go true h k ih = omega (arith, length-append p (slashed ps))
    go false h k ih = omega (arith, length-append p (slashed ps), length-append p (slashed (names ps)), ih h)

-- ---- normal spelling

join_slashed : (c : List ℕ) (cs : List (List ℕ)) → is_root c ≡ false → AllNamed cs → join (not (is_root c)) cs ≡ slashed cs
unfolding join slash slashed
join_slashed c [] h n = refl
join_slashed c (d ∷ cs) h n = rw h (ap (λ (x : List ℕ). 47 ∷ (d ++ x)) (join_slashed d cs (no_root d n.0) n.2))

-- without a root the first part stays
components_bare : (b : ℕ) (s : List ℕ) → (b == 47) ≡ false → components (b ∷ s) ≡ first_of (split (b ∷ s)) ∷ names (behind (split (b ∷ s)))
unfolding components opening
components_bare b s h = rw h (ap opening (split_some (b ∷ s)))

first_bare : (b : ℕ) (s : List ℕ) → (b == 47) ≡ false → is_root (first_of (split (b ∷ s))) ≡ false
unfolding split cut is_root
first_bare b s h = rw (h, first_grow b (split s)) h

normal_bare : (b : ℕ) (s : List ℕ) → (b == 47) ≡ false → normal (b ∷ s) ≡ first_of (split (b ∷ s)) ++ slashed (names (behind (split (b ∷ s))))
unfolding normal join slash
normal_bare b s h =
    let p = first_of (split (b ∷ s)) in
    let ns = names (behind (split (b ∷ s))) in
    let e = components_bare b s h in
    ap (join false) e ∙ ap (λ (x : List ℕ). p ++ x) (join_slashed p ns (first_bare b s h) (subst Formed e (formed (b ∷ s))).1)

-- behind the root all of them are names
normal_root : (b : ℕ) (s : List ℕ) → (b == 47) ≡ true → normal (b ∷ s) ≡ 47 ∷ join false (names (split s))
unfolding normal components join slash is_root
normal_root b s h = rw h refl

rooted : (c : List ℕ) (cs : List (List ℕ)) → AllNamed (c ∷ cs) → 47 ∷ join false (c ∷ cs) ≡ slashed (c ∷ cs)
unfolding join slash slashed
rooted c cs n = ap (λ (x : List ℕ). 47 ∷ (c ++ x)) (join_slashed c cs (no_root c n.0) n.2)

told_bare : (p : List ℕ) (ps : List (List ℕ)) → same_bytes (p ++ slashed (names ps)) (p ++ slashed ps) ≡ not (any_idle ps)
told_bare p ps = go (any_idle ps) refl
  where
    go : (e : Bool) → any_idle ps ≡ e → same_bytes (p ++ slashed (names ps)) (p ++ slashed ps) ≡ not e
    go true h =
        same_length nat_eq (p ++ slashed (names ps)) (p ++ slashed ps)
        (λ l. omega (arith, length-append p (slashed ps), length-append p (slashed (names ps)), names_shorter ps h))
    go false h = rw (names_all ps h) (same_bytes_refl (p ++ slashed ps))

told_root : (ps : List (List ℕ)) → AllNamed (names ps) → 2 ≤ length (slashed ps) → same_bytes (47 ∷ join false (names ps)) (slashed ps) ≡ not (any_idle ps)
unfolding slashed join
told_root [] n l = absurd (omega arith)
told_root (p ∷ ps) n l = go (any_idle (p ∷ ps)) refl
  where
    less : (ns : List (List ℕ)) → AllNamed ns → length (slashed ns) < length (slashed (p ∷ ps)) → length (47 ∷ join false ns) < length (slashed (p ∷ ps))
    less [] n k = omega arith
    less (c ∷ cs) n k = subst (λ (x : List ℕ). length x < length (slashed (p ∷ ps))) (sym (rooted c cs n)) k

    go : (e : Bool) → any_idle (p ∷ ps) ≡ e → same_bytes (47 ∷ join false (names (p ∷ ps))) (slashed (p ∷ ps)) ≡ not e
    go true h =
        same_length nat_eq (47 ∷ join false (names (p ∷ ps))) (slashed (p ∷ ps))
        (λ k. omega (arith, less (names (p ∷ ps)) n (names_shorter (p ∷ ps) h)))
    go false h =
        let e : names (p ∷ ps) ≡ p ∷ ps = names_all (p ∷ ps) h in
        ap (λ (x : List ℕ). same_bytes x (slashed (p ∷ ps))) (ap (λ (x : List (List ℕ)). 47 ∷ join false x) e ∙ rooted p ps (subst AllNamed e n))
        ∙ same_bytes_refl (slashed (p ∷ ps))

by_bare : (b : ℕ) (s : List ℕ) → (b == 47) ≡ false → same_bytes (normal (b ∷ s)) (b ∷ s) ≡ not (has_idle (b ∷ s))
by_bare b s h =
    let p = first_of (split (b ∷ s)) in
    let ps = behind (split (b ∷ s)) in
    ap (λ (x : List ℕ). same_bytes x (b ∷ s)) (normal_bare b s h)
    ∙ ap (λ (x : List ℕ). same_bytes (p ++ slashed (names ps)) x) (whole (b ∷ s))
    ∙ told_bare p ps
    ∙ ap not (sym (idle_parts (b ∷ s)))

split_root : (b : ℕ) (s : List ℕ) → (b == 47) ≡ true → split (b ∷ s) ≡ [] ∷ split s
unfolding split cut
split_root b s h = rw h refl

whole_root : (b : ℕ) (s : List ℕ) → (b == 47) ≡ true → b ∷ s ≡ slashed (split s)
whole_root b s h = whole (b ∷ s) ∙ ap (λ (ps : List (List ℕ)). first_of ps ++ slashed (behind ps)) (split_root b s h)

by_root : (b : ℕ) (s : List ℕ) → (b == 47) ≡ true → 2 ≤ length (b ∷ s) → same_bytes (normal (b ∷ s)) (b ∷ s) ≡ not (has_idle (b ∷ s))
unfolding rest
by_root b s h l =
    ap (λ (x : List ℕ). same_bytes x (b ∷ s)) (normal_root b s h)
    ∙ ap (λ (x : List ℕ). same_bytes (47 ∷ join false (names (split s))) x) (whole_root b s h)
    ∙ told_root (split s) (rest_named s) (subst (λ (x : List ℕ). 2 ≤ length x) (whole_root b s h) l)
    ∙ ap not (sym (idle_parts (b ∷ s) ∙ ap (λ (ps : List (List ℕ)). any_idle (behind ps)) (split_root b s h)))

-- a single byte is a name, or the root
by_one : (b : ℕ) → same_bytes (normal (b ∷ [])) (b ∷ []) ≡ true
unfolding join names split idle has_idle idle_slash
by_one b = go (b == 47) refl
  where
    none : join false (names (split [])) ≡ []
    none = refl

    go : (e : Bool) → (b == 47) ≡ e → same_bytes (normal (b ∷ [])) (b ∷ []) ≡ true
    go true h =
        ap (λ (x : List ℕ). same_bytes x (b ∷ [])) (normal_root b [] h ∙ ap (λ (x : List ℕ). 47 ∷ x) none ∙ ap (λ (x : ℕ). x ∷ []) (sym (eqb-true b 47 h)))
        ∙ same_bytes_refl (b ∷ [])
    go false h = by_bare b [] h ∙ rw (h)

-- A text is its own normal spelling exactly if its bytes say so.
pub normal_by_bytes : (s : List ℕ) → same_bytes (normal s) s ≡ is_normal s
unfolding is_normal normal components join same
normal_by_bytes [] = refl
normal_by_bytes (b ∷ []) = by_one b
normal_by_bytes (b ∷ c ∷ s) = rw (le-ltb (length (b ∷ c ∷ s)) 2 (omega arith)) (go (b == 47) refl)
  where
    go : (e : Bool) → (b == 47) ≡ e → same_bytes (normal (b ∷ c ∷ s)) (b ∷ c ∷ s) ≡ not (has_idle (b ∷ c ∷ s))
    go true h = by_root b (c ∷ s) h (omega arith)
    go false h = by_bare b (c ∷ s) h
