-- The loop of `is_normal`: a turn takes one byte from the front of what is left; two bytes are left at its end.
use Rattle.std.proofs.Common.{◌≡◌, ℕ, suc, ◌+◌, ◌-◌, ◌<◌, ◌≤◌, Bool, true, false, not, ◌&&◌, ◌||◌, eqb, List, [], ◌∷◌, length, get_or, drop, sym, refl, ap, ◌∙◌, arith, drop_of_length-le, drop-cons, le-ltb, lt-ltb}
use Rattle.lists.specs.Same.{same_bytes}
use Rattle.path.specs.Path.{normal}
use Rattle.path.specs.Spelling.{idle_slash, has_idle, is_normal}
use Rattle.path.proofs.SpellingLaws.{normal_by_bytes}

-- ---- the loop

or_assoc : (a b c : Bool) → (a || (b || c)) ≡ ((a || b) || c)
or_assoc true b c = refl
or_assoc false b c = refl

has_cons : (a b c : ℕ) (t u : List ℕ) → t ≡ b ∷ c ∷ u → has_idle (a ∷ t) ≡ (idle_slash a b c || has_idle t)
unfolding has_idle
has_cons a b c t u e = ap (λ (x : List ℕ). idle_slash a (get_or x 0 47) (get_or x 1 47) || has_idle t) e

has_drop : (s : List ℕ) (j : ℕ) → suc (suc j) < length s
    → has_idle (drop j s) ≡ (idle_slash (get_or s j 0) (get_or s (suc j) 0) (get_or s (suc (suc j)) 0) || has_idle (drop (suc j) s))
has_drop s j h =
    ap has_idle (drop-cons s j 0 (omega arith))
    ∙ has_cons (get_or s j 0) (get_or s (suc j) 0) (get_or s (suc (suc j)) 0) (drop (suc j) s) (drop (suc (suc (suc j))) s)
    (drop-cons s (suc j) 0 (omega arith) ∙ ap (λ (x : List ℕ). get_or s (suc j) 0 ∷ x) (drop-cons s (suc (suc j)) 0 h))

pub turn : (s : List ℕ) (j : ℕ) (bad t : Bool) → j + 2 < length s → has_idle s ≡ (bad || has_idle (drop j s))
    → t ≡ idle_slash (get_or s j 0) (get_or s (j + 1) 0) (get_or s (j + 2) 0) → has_idle s ≡ ((bad || t) || has_idle (drop (j + 1) s))
turn s j bad t h e f =
    let one : j + 1 ≡ suc j = omega arith in
    let two : j + 2 ≡ suc (suc j) = omega arith in
    let k : t ≡ idle_slash (get_or s j 0) (get_or s (suc j) 0) (get_or s (suc (suc j)) 0) = f ∙ rw (one, two) in
    e
    ∙ ap (λ (x : Bool). bad || x) (has_drop s j (omega arith) ∙ ap (λ (x : Bool). x || has_idle (drop (suc j) s)) (sym k))
    ∙ or_assoc bad t (has_idle (drop (suc j) s))
    ∙ ap (λ (x : ℕ). (bad || t) || has_idle (drop x s)) (sym one)

-- ---- the end

pub short : (s : List ℕ) → length s < 2 → true ≡ same_bytes (normal s) s
unfolding is_normal
short s h = sym (normal_by_bytes s ∙ rw (lt-ltb (length s) 2 h))

has_two : (a b : ℕ) → has_idle (a ∷ b ∷ []) ≡ (idle_slash a b 47 || eqb b 47)
unfolding has_idle idle_slash
has_two a b = ap (λ (x : Bool). idle_slash a b 47 || x) (go (eqb b 47))
  where
    go : (e : Bool) → ((e && true) || false) ≡ e
    go true = refl
    go false = refl

last_two : (s : List ℕ) → 2 ≤ length s → drop (length s - 2) s ≡ get_or s (length s - 2) 0 ∷ get_or s (length s - 1) 0 ∷ []
last_two s h =
    let k : suc (length s - 2) ≡ length s - 1 = omega arith in
    drop-cons s (length s - 2) 0 (omega arith)
    ∙ ap (λ (x : ℕ). get_or s (length s - 2) 0 ∷ drop x s) k
    ∙ ap (λ (x : List ℕ). get_or s (length s - 2) 0 ∷ x) (drop-cons s (length s - 1) 0 (omega arith))
    ∙ ap (λ (x : List ℕ). get_or s (length s - 2) 0 ∷ get_or s (length s - 1) 0 ∷ x) (drop_of_length-le s {i = suc (length s - 1)} (omega arith))

pub end : (s : List ℕ) (j : ℕ) (bad t : Bool) → 2 ≤ length s → j ≡ length s - 2 → has_idle s ≡ (bad || has_idle (drop j s))
    → t ≡ idle_slash (get_or s (length s - 2) 0) (get_or s (length s - 1) 0) 47 → not ((bad || t) || eqb (get_or s (length s - 1) 0) 47) ≡ same_bytes (normal s) s
unfolding is_normal
end s j bad t h at e f =
    let a = get_or s (length s - 2) 0 in
    let b = get_or s (length s - 1) 0 in
    let two : has_idle (drop j s) ≡ (t || eqb b 47) =
    ap (λ (x : ℕ). has_idle (drop x s)) at ∙ ap has_idle (last_two s h) ∙ has_two a b ∙ ap (λ (x : Bool). x || eqb b 47) (sym f) in
    let all : has_idle s ≡ ((bad || t) || eqb b 47) = e ∙ ap (λ (x : Bool). bad || x) two ∙ or_assoc bad t (eqb b 47) in
    sym (normal_by_bytes s ∙ rw (le-ltb (length s) 2 h) (ap not all))
