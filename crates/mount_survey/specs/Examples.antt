-- 01's rules of mount and adopt on small cases: 97 is `a`, 98 is `b`, 47 is `/`.
use Rattle.std.specs.Prelude.{◌≡◌, refl, [], ◌∷◌, false}
use Rattle.path.specs.Path.{same_path, components, split, cut, grow, names, idle, opening, ancestors, fronts, join, slash}
use Rattle.lists.specs.Same.{same}
use Rattle.slot_rows.specs.Rows.{file, bound, none, holds, find}
use Rattle.dir_rows.specs.Dirs.{joined, absent, has_path}
use Rattle.mount_survey.specs.Heads as Heads
use Rattle.mount_survey.specs.Heads.{claim}
use Rattle.mount_survey.specs.Survey.{survey, step, scan}

-- five slots claim `a` under generations 5, 7, 6, 9 and 9: slot 3 holds it, the others lose in this order
five_claims : scan (claim (97 ∷ []) 5 0 ∷ claim (97 ∷ []) 7 0 ∷ claim (97 ∷ []) 6 0 ∷ claim (97 ∷ []) 9 0 ∷ claim (97 ∷ []) 9 0 ∷ []) (survey [] [] [] [] 1)
    ≡ survey (none ∷ none ∷ none ∷ bound (97 ∷ []) (file 9 0 false) ∷ none ∷ []) [] (0 ∷ 2 ∷ 1 ∷ 4 ∷ []) [] 10
unfolding scan step find holds same_path components split cut grow names idle opening same joined absent ancestors fronts
five_claims = refl

-- a held file of an equal path loses to a higher claim; the claim's directory is registered; a free header raises the counter too
held_loses : scan (Heads.idle 20 ∷ Heads.absent ∷ claim (97 ∷ 47 ∷ 47 ∷ 98 ∷ []) 4 7 ∷ []) (survey (bound (97 ∷ 47 ∷ 98 ∷ []) (file 3 0 false) ∷ []) [] [] [] 5)
    ≡ survey (none ∷ none ∷ none ∷ bound (97 ∷ 47 ∷ 47 ∷ 98 ∷ []) (file 4 7 false) ∷ []) (1 ∷ 2 ∷ []) (0 ∷ []) ((97 ∷ []) ∷ []) 21
unfolding scan step find holds same_path components split cut grow names idle opening same joined absent has_path ancestors fronts join slash
held_loses = refl
