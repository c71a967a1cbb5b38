-- The places of a walk along a spelling: what the functions that find and compare components say of their answers.
use Rattle.std.specs.Prelude.{None, Option, Some}
use Rattle.std.specs.declared.cmp.Ordering.{Ordering}
use Rattle.std.specs.declared.cmp.Ordering.TheVariants.{Equal, Greater, Less}
use Rattle.std.specs.Prelude.{◌≡◌, ℕ, suc, ◌-◌, ◌<◌, ◌≤◌, Bool, true, false, cond, ◌⊎◌, List, [], ◌∷◌, ◌++◌, length, take, drop, ◌==◌, nat_lt, slice_index, slice_range}
use Rattle.le.specs.Le.{laid}
use Rattle.lists.specs.Order.{and_then, cmp_nat}
use Rattle.path.specs.declared.Part.{Part}
use Rattle.path.specs.Path.{names, split, components, init, has_parent, normal, parent_of, ancestors}

-- ---- from the front

-- how many bytes of a text stand before its first slash
unfoldable pub run : List ℕ → ℕ
run [] = 0
run (b ∷ s) = cond (b == 47) 0 (suc (run s))

-- the components of a text that stands behind a path's first
unfoldable pub rest : List ℕ → List (List ℕ)
rest t = names (split t)

-- the components from place i on: all of them from 0 on, else those of what is left of the text
unfoldable pub left : List ℕ → ℕ → List (List ℕ)
left s i = cond (i == 0) (components s) (rest (drop i s))

-- the next component from place i on stands from a to e
pub record Next (s : List ℕ) (i a e : ℕ) : Type 0 where
  pub onward : i ≤ a
  pub some : a < e
  pub inside : e ≤ length s
  pub gives : left s i ≡ slice_range s a e ∷ left s e

abbrev pub NextOf : List ℕ → ℕ → Option Part → Type 0
NextOf s i None = left s i ≡ []
NextOf s i (Some p) = Next s i p.start p.stop

-- the same behind a path's first component
pub record NextName (s : List ℕ) (i a e : ℕ) : Type 0 where
  pub onward : i ≤ a
  pub some : a < e
  pub inside : e ≤ length s
  pub gives : rest (drop i s) ≡ slice_range s a e ∷ rest (drop e s)

abbrev pub NameOf : List ℕ → ℕ → Option Part → Type 0
NameOf s i None = rest (drop i s) ≡ []
NameOf s i (Some p) = NextName s i p.start p.stop

-- ---- from the back

-- no slash in it
abbrev pub Free : List ℕ → Type 0
Free [] = Unit {0}
Free (b ∷ p) = ((b == 47) ≡ false) × Free p

-- the part that ends at e starts at a: behind a slash, or at the front
pub record Starts (s : List ℕ) (e a : ℕ) : Type 0 where
  pub inside : a ≤ e
  pub free : Free (slice_range s a e)
  pub edge : (a ≡ 0) ⊎ (slice_index s (a - 1) ≡ 47)

-- the last component stands from a to e, behind a slash or at the front
pub record Last (s : List ℕ) (a e : ℕ) : Type 0 where
  pub some : a < e
  pub inside : e ≤ length s
  pub edge : (a ≡ 0) ⊎ (slice_index s (a - 1) ≡ 47)
  pub gives : components s ≡ components (take a s) ++ slice_range s a e ∷ []

abbrev pub LastOf : List ℕ → Option Part → Type 0
LastOf s None = components s ≡ []
LastOf s (Some p) = Last s p.start p.stop

-- ---- the parent and the ancestors, as fronts of the spelling

-- the front that ends at e spells the parent
pub record UpTo (s : List ℕ) (e : ℕ) : Type 0 where
  pub inside : e ≤ length s
  pub names : components (take e s) ≡ init (components s)
  pub has : has_parent (components s) ≡ true

abbrev pub UpOf : List ℕ → Option ℕ → Type 0
UpOf s None = has_parent (components s) ≡ false
UpOf s (Some e) = UpTo s e

-- a buffer with the parent's normal spelling in front, or as it was if there is none
unfoldable pub parent_laid : List ℕ → List ℕ → List ℕ
parent_laid d s = cond (has_parent (components s)) (laid d 0 (parent_of s)) d

-- the ancestors from the front that ends at r on; 0 is behind the last
unfoldable pub up_from : List ℕ → ℕ → List (List ℕ)
up_from s r = cond (r == 0) [] (normal (take r s) ∷ ancestors (take r s))

-- the front that ends at r spells the nearest ancestor that is not empty, and 0 says that there is none
pub record Above (s : List ℕ) (r : ℕ) : Type 0 where
  pub inside : r ≤ length s
  pub falls : 0 < length s → r < length s
  pub gives : ancestors s ≡ up_from s r

-- ---- order

-- two components that differ, in normal spellings: m and n say whether a slash and more follow them
unfoldable pub name_order : Bool → List ℕ → Bool → List ℕ → Ordering
name_order m [] n [] = Equal
name_order m [] n (y ∷ ys) = cond m (cond (nat_lt 47 y) Less Greater) Less
name_order m (x ∷ xs) n [] = cond n (cond (nat_lt x 47) Less Greater) Greater
name_order m (x ∷ xs) n (y ∷ ys) = and_then (cmp_nat x y) (name_order m xs n ys)
