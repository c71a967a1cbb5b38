-- `compare` meets its contract by std's order of two slices, which is the lexicographic lift of the order of numbers.
use Rattle.std.proofs.Common.{◌≡◌, ◌∙◌, ℕ, ◌<◌, ◌≤◌, List, [], ◌∷◌, refl, sym, arith}
use Rattle.std.specs.declared.cmp.Ordering.{Ordering}
use Rattle.std.specs.declared.cmp.Ordering.TheVariants.{Less, Equal, Greater}
use Rattle.std.specs.Ordering.{nat_cmp, ordering_then, MatchOrdering}
use Rattle.std.specs.Cmp.{ranks}
use Rattle.std.specs.Cmp.Lexicographic.{slice_cmp}
use Rattle.lists.specs.Order.{byte_order, lex, cmp_nat, and_then, nat_less, nat_same, nat_greater}
use Rattle.lists.proofs.compare.Goals as goal

-- std's order of two numbers is `cmp_nat`
numbers : (x y : ℕ) (o : Ordering) → MatchOrdering o (x < y) (x ≡ y) (y < x) → o ≡ cmp_nat x y
numbers x y Less h = sym (nat_less x y h)
numbers x y Equal h = let a : y ≤ x = omega arith in let b : x ≤ y = omega arith in sym (nat_same x y a b)
numbers x y Greater h = sym (nat_greater x y h)

-- and so one step of its order of two runs
step : (o p : Ordering) (r s : Ordering) → o ≡ p → r ≡ s → ordering_then o r ≡ and_then p s
step Less p r s e f = rw (← e)
step Equal p r s e f = rw (← e) f
step Greater p r s e f = rw (← e)

std_order : (a b : List ℕ) → slice_cmp nat_cmp a b ≡ byte_order a b
unfolding lex
std_order [] [] = refl
std_order [] (y ∷ ys) = refl
std_order (x ∷ xs) [] = refl
std_order (x ∷ xs) (y ∷ ys) = step _ _ _ _ (numbers x y (nat_cmp x y) (ranks x y)) (std_order xs ys)

pub returns : goal.returns
returns c = c.cmp.ensures ∙ std_order _ _
