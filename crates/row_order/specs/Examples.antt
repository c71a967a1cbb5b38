-- The order in small: 46 is `.`, 47 is `/`, 97 is `a`, 98 is `b`.
use Rattle.std.specs.Prelude.{◌≡◌, refl, [], ◌∷◌}
use Rattle.lists.specs.Order.{cmp_nat, lex}
use Rattle.lists.specs.Sort.{insert, sort}
use Rattle.path.specs.Path.{grow, cut, split, idle, names, opening, components, is_root, slash, join, normal, path_order}
use Rattle.row_order.specs.Spans.{span, spelled, path_before, in_order}

-- `a.b` comes before `a/b`, and `a` before both
dot_before_slash : in_order ((97 ∷ 47 ∷ 98 ∷ []) ∷ (97 ∷ 46 ∷ 98 ∷ []) ∷ (97 ∷ []) ∷ []) ≡ (97 ∷ []) ∷ (97 ∷ 46 ∷ 98 ∷ []) ∷ (97 ∷ 47 ∷ 98 ∷ []) ∷ []
unfolding in_order sort insert path_before path_order normal lex cmp_nat join slash is_root components opening names idle split cut grow
dot_before_slash = refl

-- the normal spelling decides: `a//b` comes behind `a/a`, though its second slash is below `a`
normal_decides : in_order ((97 ∷ 47 ∷ 47 ∷ 98 ∷ []) ∷ (97 ∷ 47 ∷ 97 ∷ []) ∷ []) ≡ (97 ∷ 47 ∷ 97 ∷ []) ∷ (97 ∷ 47 ∷ 47 ∷ 98 ∷ []) ∷ []
unfolding in_order sort insert path_before path_order normal lex cmp_nat join slash is_root components opening names idle split cut grow
normal_decides = refl

-- the part from 1 on, of 2 bytes, of the text `b/a/` is `/a`
part_of : spelled (98 ∷ 47 ∷ 97 ∷ 47 ∷ []) (span 1 2) ≡ 47 ∷ 97 ∷ []
unfolding spelled
part_of = refl
