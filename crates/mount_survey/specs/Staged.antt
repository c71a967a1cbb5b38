-- What a survey comes to, read off the rows in which the claims are staged: 01, "Mount, adopt", with the slots' rows in place of their headers.
use Rattle.std.specs.Prelude.{ℕ, suc, max, cond, List, [], ◌∷◌, set}
use Rattle.slot_rows.specs.Rows.{Row, none, is_bound, path_of}
use Rattle.dir_rows.specs.Dirs.{registered}
use Rattle.mount_survey.specs.Heads.{Head, absent, idle, claim}

-- The losers' rows are no longer bound.
unfoldable pub vacated : List ℕ → List Row → List Row
vacated [] rs = rs
vacated (i ∷ is) rs = vacated is (set rs i none)

-- "Non-claims join the queue by index": the numbers of the rows that are not bound, counted from i on.
unfoldable pub spares : ℕ → List Row → List ℕ
spares i [] = []
spares i (r ∷ rs) = cond (is_bound r) (spares (suc i) rs) (i ∷ spares (suc i) rs)

-- "Ancestors of every claim are registered", lowest slot first. The path of a row that is not bound is empty, and has none.
unfoldable pub claimed : List Row → List (List ℕ) → List (List ℕ)
claimed [] ds = ds
claimed (r ∷ rs) ds = claimed rs (registered ds (path_of r))

-- The counter "exceeds every valid header's generation": the least that does.
unfoldable pub wants : Head → ℕ
wants absent = 0
wants (idle g) = suc g
wants (claim p g n) = suc g

unfoldable pub wanted_of : List Head → ℕ
wanted_of [] = 0
wanted_of (h ∷ hs) = max (wants h) (wanted_of hs)
