-- What holds of paths, for the crates above: equality, normal spelling, order and key.
use Rattle.std.specs.declared.cmp.Ordering.TheVariants.{Equal}
use Rattle.std.specs.Prelude.{◌≡◌, ℕ, suc, ◌≤◌, Bool, true, false, cond, ◌↔◌, List, [], ◌∷◌, length, ◌==◌, ◌≢◌, refl}
use Rattle.std.proofs.Common.{sym, ap, ◌∙◌, arith}
use Rattle.std.proofs.lemmas.Bool.{false≢true}
use Rattle.lists.specs.Same.{same, same_bytes, same_refl, same_eq, same_bytes_refl, same_bytes_eq}
use Rattle.lists.specs.Order.{byte_order, byte_orders, Ranks, ranks, keyed}
use Rattle.path.specs.Path.{components, names, split, same_path, init, has_parent, is_parent, join, normal, path_order, key_of}
use Rattle.path.proofs.Parts.{formed, components_step, components_join, join_short}

-- ---- equality

-- The test says yes exactly if the components are equal.
pub same_path_lem : (a b : List ℕ) → same_path a b ≡ true ↔ components a ≡ components b
unfolding same_path
same_path_lem a b =
    (same_eq same_bytes same_bytes_eq (components a) (components b), λ e. rw e (same_refl same_bytes same_bytes_refl (components b)))

-- Every path equals itself,
pub same_path_refl : (a : List ℕ) → same_path a a ≡ true
same_path_refl a = (same_path_lem a a).1 refl

-- equality goes both ways,
pub same_path_sym : (a b : List ℕ) → same_path a b ≡ true → same_path b a ≡ true
same_path_sym a b e = (same_path_lem b a).1 (sym ((same_path_lem a b).0 e))

-- and on.
pub same_path_trans : (a b c : List ℕ) → same_path a b ≡ true → same_path b c ≡ true → same_path a c ≡ true
same_path_trans a b c e f = (same_path_lem a c).1 ((same_path_lem a b).0 e ∙ (same_path_lem b c).0 f)

-- Only the components of the two sides matter.
pub same_path_of : (a b c d : List ℕ) → components a ≡ components c → components b ≡ components d → same_path a b ≡ same_path c d
unfolding same_path
same_path_of a b c d e f = rw (e, f)

-- Equal bytes are equal paths.
pub bytes_same_path : (a b : List ℕ) → same_bytes a b ≡ true → same_path a b ≡ true
bytes_same_path a b e = (same_path_lem a b).1 (ap components (same_bytes_eq a b e))

-- A path has no component only if it has no byte.
pub no_components : (s : List ℕ) → components s ≡ [] → s ≡ []
unfolding components
no_components [] e = refl
no_components (b ∷ s) e = go (b == 47) refl
  where
    go : (t : Bool) → (b == 47) ≡ t → b ∷ s ≡ []
    go true h = let z : length (components (b ∷ s)) ≡ suc (length (names (split s))) = rw h in absurd (omega (arith, ap length e))
    go false h = absurd (omega (arith, ap length (components_step b s h), ap length e))

-- The test for the parent says yes exactly if there is one, and the components are the path's but the last.
pub is_parent_lem : (d f : List ℕ) → is_parent d f ≡ true ↔ (has_parent (components f) ≡ true) × (components d ≡ init (components f))
unfolding is_parent
is_parent_lem d f = (go (has_parent (components f)) refl, λ e. rw (e.0, e.1) (same_refl same_bytes same_bytes_refl (init (components f))))
  where
    go : (t : Bool) → has_parent (components f) ≡ t → cond t (same same_bytes (components d) (init (components f))) false ≡ true → (t ≡ true) × (components d ≡ init (components f))
    go true h e = (refl, same_eq same_bytes same_bytes_eq (components d) (init (components f)) e)
    go false h e = absurd (false≢true e)

-- ---- normal spelling

-- The normal spelling spells the path.
pub components_normal : (s : List ℕ) → components (normal s) ≡ components s
unfolding normal
components_normal s = components_join (components s) (formed s)

-- Two paths have one normal spelling exactly if they have the same components.
pub same_normal : (a b : List ℕ) → normal a ≡ normal b ↔ components a ≡ components b
unfolding normal
same_normal a b = (λ e. sym (components_normal a) ∙ ap components e ∙ components_normal b, λ e. ap (join false) e)

-- A normal spelling is its own.
pub normal_normal : (s : List ℕ) → normal (normal s) ≡ normal s
normal_normal s = (same_normal (normal s) s).1 (components_normal s)

-- Normal spellings are equal paths only if they are the same bytes.
pub normal_bytes : (a b : List ℕ) → normal a ≡ a → normal b ≡ b → same_path a b ≡ same_bytes a b
normal_bytes a b e f = go (same_path a b) (same_bytes a b) refl refl
  where
    go : (t u : Bool) → same_path a b ≡ t → same_bytes a b ≡ u → t ≡ u
    go true true g h = refl
    go false false g h = refl
    go true false g h =
        let q : a ≡ b = sym e ∙ (same_normal a b).1 ((same_path_lem a b).0 g) ∙ f in
        sym (ap (λ (x : List ℕ). same_bytes x b) q ∙ same_bytes_refl b) ∙ h
    go false true g h = sym g ∙ bytes_same_path a b h

-- The normal spelling is no longer than the given one.
pub normal_short : (s : List ℕ) → length (normal s) ≤ length s
unfolding normal
normal_short = join_short

-- ---- order

-- The order of paths is total: it flips with its sides, and goes on.
pub order_ranks : Ranks path_order
unfolding path_order
order_ranks = keyed byte_order normal (ranks byte_order byte_orders)

-- Two paths are level exactly if they are equal.
pub order_equal : (a b : List ℕ) → path_order a b ≡ Equal ↔ same_path a b ≡ true
unfolding path_order
order_equal a b = (
  λ e. (same_path_lem a b).1 ((same_normal a b).0 (byte_orders.equal (normal a) (normal b) e)),
  λ e. rw ((same_normal a b).1 ((same_path_lem a b).0 e)) (byte_orders.same (normal b)),
)

-- Only the components of the two sides matter.
pub order_of : (a b c d : List ℕ) → components a ≡ components c → components b ≡ components d → path_order a b ≡ path_order c d
unfolding path_order normal
order_of a b c d e f = rw (e, f)

-- ---- key

-- Equal paths have one key.
pub key_same : (a b : List ℕ) → same_path a b ≡ true → key_of a ≡ key_of b
unfolding key_of
key_same a b e = rw ((same_path_lem a b).0 e)

-- Paths of different keys are different.
pub key_other : (a b : List ℕ) → (key_of a ≢ key_of b) → same_path a b ≡ false
key_other a b n = go (same_path a b) refl
  where
    go : (t : Bool) → same_path a b ≡ t → t ≡ false
    go true e = absurd (n (key_same a b e))
    go false e = refl
