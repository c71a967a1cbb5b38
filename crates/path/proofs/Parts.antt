-- How parts and components come apart and go together: the laws from which the theorems and the functions' proofs are made.
use Rattle.std.specs.Prelude.{◌≡◌, ℕ, suc, ◌+◌, ◌<◌, ◌≤◌, Bool, true, false, cond, not, ◌⊎◌, List, [], ◌∷◌, ◌++◌, length, take, drop, ◌==◌, refl}
use Rattle.std.proofs.Common.{sym, ap, ◌∙◌, inl, inr, ⊎_elim, append-nil, length-append, arith}
use Rattle.std.proofs.lemmas.Bool.{false≢true}
use Rattle.path.specs.Path.{grow, cut, split, idle, names, opening, components, is_root, slash, join}
use Rattle.path.specs.Walk.{run, rest, Free}

-- ---- the first part

-- what stands behind the first slash, in parts
unfoldable pub more : List ℕ → List (List ℕ)
more [] = []
more (b ∷ t) = split t

pub split_run : (t : List ℕ) → split t ≡ take (run t) t ∷ more (drop (run t) t)
unfolding split run more cut grow
split_run [] = refl
split_run (b ∷ t) = go (b == 47) (split_run t)
  where
    go : (e : Bool) → split t ≡ take (run t) t ∷ more (drop (run t) t)
        → cut e b (split t) ≡ take (cond e 0 (suc (run t))) (b ∷ t) ∷ more (drop (cond e 0 (suc (run t))) (b ∷ t))
    go true ih = refl
    go false ih = rw ih

names_more : (t : List ℕ) → names (more (drop (run t) t)) ≡ rest (drop (run t) t)
unfolding split run more names rest idle cut
names_more [] = refl
names_more (b ∷ t) = go (b == 47) refl (names_more t)
  where
    go : (e : Bool) → (b == 47) ≡ e → names (more (drop (run t) t)) ≡ rest (drop (run t) t)
        → names (more (drop (cond e 0 (suc (run t))) (b ∷ t))) ≡ rest (drop (cond e 0 (suc (run t))) (b ∷ t))
    go true h ih = rw h
    go false h ih = ih

-- the first part of a text, kept or dropped, and what is behind it
pub rest_step : (t : List ℕ) → rest t ≡ cond (idle (take (run t) t)) (rest (drop (run t) t)) (take (run t) t ∷ rest (drop (run t) t))
unfolding rest names
rest_step t = ap names (split_run t) ∙ rw (names_more t)

pub components_step : (b : ℕ) (t : List ℕ) → (b == 47) ≡ false
    → components (b ∷ t) ≡ take (run (b ∷ t)) (b ∷ t) ∷ rest (drop (run (b ∷ t)) (b ∷ t))
unfolding components opening
components_step b t h = rw h (ap opening (split_run (b ∷ t)) ∙ ap (λ (ns : List (List ℕ)). take (run (b ∷ t)) (b ∷ t) ∷ ns) (names_more (b ∷ t)))

pub rest_slash : (b : ℕ) (t : List ℕ) → (b == 47) ≡ true → rest (b ∷ t) ≡ rest t
unfolding rest names split cut idle
rest_slash b t h = rw h

pub rest_nil : rest [] ≡ []
unfolding rest names split idle
rest_nil = refl

-- ---- a text behind a text

cut_append : (e : Bool) (x : ℕ) (p : List ℕ) (ps qs : List (List ℕ)) → cut e x ((p ∷ ps) ++ qs) ≡ cut e x (p ∷ ps) ++ qs
unfolding cut grow
cut_append true x p ps qs = refl
cut_append false x p ps qs = refl

cut_split : (e : Bool) (x : ℕ) (s : List ℕ) (qs : List (List ℕ)) → cut e x (split s ++ qs) ≡ cut e x (split s) ++ qs
cut_split e x s qs = rw (split_run s) (cut_append e x (take (run s) s) (more (drop (run s) s)) qs)

split_append : (p u : List ℕ) → split (p ++ 47 ∷ u) ≡ split p ++ split u
unfolding split cut
split_append [] u = refl
split_append (x ∷ p) u = ap (cut (x == 47) x) (split_append p u) ∙ cut_split (x == 47) x p (split u)

names_append : (ps qs : List (List ℕ)) → names (ps ++ qs) ≡ names ps ++ names qs
unfolding names
names_append [] qs = refl
names_append (p ∷ ps) qs = go (idle p) (names_append ps qs)
  where
    go : (e : Bool) → names (ps ++ qs) ≡ names ps ++ names qs → cond e (names (ps ++ qs)) (p ∷ names (ps ++ qs)) ≡ cond e (names ps) (p ∷ names ps) ++ names qs
    go true ih = ih
    go false ih = rw ih

rest_append : (p u : List ℕ) → rest (p ++ 47 ∷ u) ≡ rest p ++ rest u
unfolding rest
rest_append p u = ap names (split_append p u) ∙ names_append (split p) (split u)

opening_append : (x : ℕ) (p u : List ℕ) → opening (split (x ∷ p) ++ split u) ≡ opening (split (x ∷ p)) ++ rest u
unfolding opening rest
opening_append x p u = rw (split_run (x ∷ p)) (ap (λ (ns : List (List ℕ)). take (run (x ∷ p)) (x ∷ p) ∷ ns) (names_append (more (drop (run (x ∷ p)) (x ∷ p))) (split u)))

-- the components of a text are those of a front of it that ends before a slash, and those behind
pub components_append : (x : ℕ) (p u : List ℕ) → components ((x ∷ p) ++ 47 ∷ u) ≡ components (x ∷ p) ++ rest u
unfolding components rest
components_append x p u = go (x == 47)
  where
    go : (e : Bool) → cond e ((47 ∷ []) ∷ names (split (p ++ 47 ∷ u))) (opening (split (x ∷ (p ++ 47 ∷ u)))) ≡ cond e ((47 ∷ []) ∷ names (split p)) (opening (split (x ∷ p))) ++ rest u
    go true = ap (λ (ns : List (List ℕ)). (47 ∷ []) ∷ ns) (rest_append p u)
    go false = ap opening (split_append (x ∷ p) u) ∙ opening_append x p u

-- ---- the form of components

abbrev AllFree : List (List ℕ) → Type 0
AllFree [] = Unit {0}
AllFree (p ∷ ps) = Free p × AllFree ps

-- names: no slash, and neither empty nor `.`
abbrev pub AllNamed : List (List ℕ) → Type 0
AllNamed [] = Unit {0}
AllNamed (p ∷ ps) = Free p × (idle p ≡ false) × AllNamed ps

-- the first component: the root, or a part that is not empty
abbrev pub First : List ℕ → Type 0
First [] = ⊥
First (b ∷ p) = (◌≡◌ {A = List ℕ} (b ∷ p) (47 ∷ [])) ⊎ (Free (b ∷ p))

abbrev pub Formed : List (List ℕ) → Type 0
Formed [] = Unit {0}
Formed (c ∷ cs) = First c × AllNamed cs

cut_free : (x : ℕ) (ps : List (List ℕ)) (e : Bool) → (x == 47) ≡ e → AllFree ps → AllFree (cut e x ps)
unfolding cut grow
cut_free x ps true h f = (tt, f)
cut_free x [] false h f = ((h, tt), tt)
cut_free x (p ∷ ps) false h f = ((h, f.0), f.1)

split_free : (s : List ℕ) → AllFree (split s)
unfolding split
split_free [] = (tt, tt)
split_free (b ∷ s) = cut_free b (split s) (b == 47) refl (split_free s)

names_named : (ps : List (List ℕ)) → AllFree ps → AllNamed (names ps)
unfolding names
names_named [] f = tt
names_named (p ∷ ps) f = go (idle p) refl (names_named ps f.1)
  where
    go : (e : Bool) → idle p ≡ e → AllNamed (names ps) → AllNamed (cond e (names ps) (p ∷ names ps))
    go true h n = n
    go false h n = (f.0, h, n)

pub rest_named : (t : List ℕ) → AllNamed (rest t)
unfolding rest
rest_named t = names_named (split t) (split_free t)

opening_formed : (b : ℕ) (ps : List (List ℕ)) → (b == 47) ≡ false → AllFree ps → Formed (opening (grow b ps))
unfolding opening grow names
opening_formed b [] h f = (inr (h, tt), tt)
opening_formed b (p ∷ ps) h f = (inr (h, f.0), names_named ps f.1)

pub formed : (s : List ℕ) → Formed (components s)
unfolding components split cut
formed [] = tt
formed (b ∷ s) = go (b == 47) refl
  where
    go : (e : Bool) → (b == 47) ≡ e → Formed (cond e ((47 ∷ []) ∷ names (split s)) (opening (cut e b (split s))))
    go true h = (inl refl, names_named (split s) (split_free s))
    go false h = opening_formed b (split s) h (split_free s)

-- names can stand first, too
pub named_formed : (cs : List (List ℕ)) → AllNamed cs → Formed cs
unfolding idle
named_formed [] n = tt
named_formed ([] ∷ cs) n = absurd (false≢true (sym n.1))
named_formed ((b ∷ p) ∷ cs) n = (inr n.0, n.2)

-- a front of components has their form
named_front : (f t : List (List ℕ)) → AllNamed (f ++ t) → AllNamed f
named_front [] t n = tt
named_front (c ∷ f) t n = (n.0, n.1, named_front f t n.2)

pub formed_front : (f t : List (List ℕ)) → Formed (f ++ t) → Formed f
formed_front [] t n = tt
formed_front (c ∷ f) t n = (n.0, named_front f t n.1)

-- ---- the components of joined components

pub split_one : (p : List ℕ) → Free p → split p ≡ p ∷ []
unfolding split cut grow
split_one [] f = refl
split_one (b ∷ p) f = rw (f.0, split_one p f.1)

pub rest_one : (p : List ℕ) → Free p → idle p ≡ false → rest p ≡ p ∷ []
unfolding rest names
rest_one p f n = rw (split_one p f, n)

pub components_one : (b : ℕ) (p : List ℕ) → Free (b ∷ p) → components (b ∷ p) ≡ (b ∷ p) ∷ []
unfolding components opening names
components_one b p f = rw (f.0, split_one (b ∷ p) f)

pub no_root : (p : List ℕ) → Free p → is_root p ≡ false
unfolding is_root
no_root [] f = refl
no_root (b ∷ p) f = f.0

-- names behind a name
rest_join : (c : List ℕ) (cs : List (List ℕ)) → Free c → idle c ≡ false → AllNamed cs → rest (c ++ join (not (is_root c)) cs) ≡ c ∷ cs
unfolding join slash
rest_join c [] f n a = rw (append-nil c) (rest_one c f n)
rest_join c (d ∷ cs) f n a =
    rw (no_root c f) (rest_append c (d ++ join (not (is_root d)) cs)
    ∙ rw (rest_one c f n) (ap (λ (ns : List (List ℕ)). c ∷ ns) (rest_join d cs a.0 a.1 a.2)))

join_root : (cs : List (List ℕ)) → AllNamed cs → components ((47 ∷ []) ++ join (not (is_root (47 ∷ []))) cs) ≡ (47 ∷ []) ∷ cs
unfolding components is_root join slash rest names split idle
join_root [] n = refl
join_root (c ∷ cs) n = ap (λ (ns : List (List ℕ)). (47 ∷ []) ∷ ns) (rest_join c cs n.0 n.1 n.2)

-- over a variable c: at `b ∷ p` the goal computes too far
join_root_as : (c : List ℕ) (cs : List (List ℕ)) → c ≡ 47 ∷ [] → AllNamed cs → components (c ++ join (not (is_root c)) cs) ≡ c ∷ cs
join_root_as c cs e n = rw e (join_root cs n)

join_named : (b : ℕ) (p : List ℕ) (cs : List (List ℕ)) → Free (b ∷ p) → AllNamed cs → components ((b ∷ p) ++ join (not (is_root (b ∷ p))) cs) ≡ (b ∷ p) ∷ cs
unfolding join slash
join_named b p [] f n = rw (append-nil p) (components_one b p f)
join_named b p (c ∷ cs) f n =
    rw (no_root (b ∷ p) f) (components_append b p (c ++ join (not (is_root c)) cs)
    ∙ rw (components_one b p f) (ap (λ (ns : List (List ℕ)). (b ∷ p) ∷ ns) (rest_join c cs n.0 n.1 n.2)))

pub components_join : (cs : List (List ℕ)) → Formed cs → components (join false cs) ≡ cs
unfolding join slash components
components_join [] f = refl
components_join ([] ∷ cs) f = absurd f.0
components_join ((b ∷ p) ∷ cs) f = ⊎_elim (λ e. join_root_as (b ∷ p) cs e f.1) (λ g. join_named b p cs g f.1) f.0

-- ---- joined components are no longer than the text

-- the bytes of parts, with one more for each
total : List (List ℕ) → ℕ
total [] = 0
total (p ∷ ps) = suc (length p + total ps)

total_cut : (e : Bool) (b : ℕ) (p : List ℕ) (ps : List (List ℕ)) → total (cut e b (p ∷ ps)) ≡ suc (total (p ∷ ps))
unfolding total cut grow
total_cut true b p ps = omega arith
total_cut false b p ps = omega arith

total_split : (s : List ℕ) → total (split s) ≡ suc (length s)
unfolding split total
total_split [] = omega arith
total_split (b ∷ s) =
    rw (split_run s) (total_cut (b == 47) b (take (run s) s) (more (drop (run s) s)))
    ∙ ap suc (ap total (sym (split_run s)) ∙ total_split s)

length_slash : (w : Bool) → length (slash w) ≤ 1
unfolding slash
length_slash true = omega arith
length_slash false = omega arith

pub length_join : (w : Bool) (c : List ℕ) (cs : List (List ℕ)) → length (join w (c ∷ cs)) ≡ length (slash w) + (length c + length (join (not (is_root c)) cs))
unfolding join
length_join w c cs = simp length-append

-- names fit in the room of the parts that they come from
join_names : (w : Bool) (ps : List (List ℕ)) → length (join w (names ps)) ≤ total ps
unfolding names total join
join_names w [] = omega arith
join_names w (p ∷ ps) = go (idle p) (join_names w ps) (join_names (not (is_root p)) ps)
  where
    go : (e : Bool) → length (join w (names ps)) ≤ total ps → length (join (not (is_root p)) (names ps)) ≤ total ps
        → length (join w (cond e (names ps) (p ∷ names ps))) ≤ suc (length p + total ps)
    go true i k = omega arith
    go false i k = omega (arith, length_join w p (names ps), length_slash w)

join_bare : (p : List ℕ) (ps : List (List ℕ)) → length (join false (names (p ∷ ps))) < total (p ∷ ps)
unfolding names total slash
join_bare p ps = go (idle p) (join_names false ps) (join_names (not (is_root p)) ps)
  where
    go : (e : Bool) → length (join false (names ps)) ≤ total ps → length (join (not (is_root p)) (names ps)) ≤ total ps
        → length (join false (cond e (names ps) (p ∷ names ps))) < suc (length p + total ps)
    go true i k = omega arith
    go false i k = omega (arith, length_join false p (names ps))

join_rest : (s : List ℕ) → length (join false (names (split s))) ≤ length s
join_rest s =
    let h : length (join false (names (split s))) < total (split s) = rw (split_run s) (join_bare (take (run s) s) (more (drop (run s) s))) in
    omega (arith, total_split s)

join_opening : (p : List ℕ) (ps : List (List ℕ)) → length (join false (opening (p ∷ ps))) < total (p ∷ ps)
unfolding opening total slash
join_opening p ps = omega (arith, length_join false p (names ps), join_names (not (is_root p)) ps)

pub join_short : (s : List ℕ) → length (join false (components s)) ≤ length s
unfolding components join is_root slash
join_short [] = omega arith
join_short (b ∷ s) = go (b == 47)
  where
    go : (e : Bool) → length (join false (cond e ((47 ∷ []) ∷ names (split s)) (opening (split (b ∷ s))))) ≤ suc (length s)
    go true = omega (arith, join_rest s, length_join false (47 ∷ []) (names (split s)))
    go false =
        let h : length (join false (opening (split (b ∷ s)))) < total (split (b ∷ s)) =
        rw (split_run (b ∷ s)) (join_opening (take (run (b ∷ s)) (b ∷ s)) (more (drop (run (b ∷ s)) (b ∷ s)))) in
        omega (arith, total_split (b ∷ s))

-- a front of components joins to a front
pub join_front : (w : Bool) (f t : List (List ℕ)) → length (join w f) ≤ length (join w (f ++ t))
unfolding join
join_front w [] t = omega arith
join_front w (c ∷ f) t = simp (length-append) (omega (arith, join_front (not (is_root c)) f t))
