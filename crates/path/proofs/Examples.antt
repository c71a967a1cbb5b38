-- The examples of 01, "Path equality", and of the documentation of std::path::Components. 97 is `a`, 98 is `b`.
use Rattle.std.specs.Prelude.{◌≡◌, true, false, [], ◌∷◌, refl}
use Rattle.lists.specs.Same.{same}
use Rattle.path.specs.Path.{grow, cut, split, idle, names, opening, components, same_path, init, is_root, has_parent, is_parent, slash, join, normal, parent_of, fronts, ancestors}
use Rattle.path.specs.Spelling.{idle_slash, has_idle, is_normal}

-- `a//b/` equals `a/b`
slashes : same_path (97 ∷ 47 ∷ 47 ∷ 98 ∷ 47 ∷ []) (97 ∷ 47 ∷ 98 ∷ []) ≡ true
unfolding same_path same components opening names idle split cut grow
slashes = refl

-- `./a` differs from `a`
dot_first : same_path (46 ∷ 47 ∷ 97 ∷ []) (97 ∷ []) ≡ false
unfolding same_path same components opening names idle split cut grow
dot_first = refl

-- `/./a` equals `/a`
dot_behind_root : same_path (47 ∷ 46 ∷ 47 ∷ 97 ∷ []) (47 ∷ 97 ∷ []) ≡ true
unfolding same_path same components opening names idle split cut grow
dot_behind_root = refl

-- `a/.` equals `a`
dot_last : same_path (97 ∷ 47 ∷ 46 ∷ []) (97 ∷ []) ≡ true
unfolding same_path same components opening names idle split cut grow
dot_last = refl

-- `//.` is the root
root : components (47 ∷ 47 ∷ 46 ∷ []) ≡ (47 ∷ []) ∷ []
unfolding components names idle split cut grow
root = refl

-- `./.` has the one component `.`
dot_alone : components (46 ∷ 47 ∷ 46 ∷ []) ≡ (46 ∷ []) ∷ []
unfolding components opening names idle split cut grow
dot_alone = refl

-- `a/..` is not resolved
dots_stay : components (97 ∷ 47 ∷ 46 ∷ 46 ∷ []) ≡ (97 ∷ []) ∷ (46 ∷ 46 ∷ []) ∷ []
unfolding components opening names idle split cut grow
dots_stay = refl

-- `.a` is a name
dot_name : components (47 ∷ 46 ∷ 97 ∷ []) ≡ (47 ∷ []) ∷ (46 ∷ 97 ∷ []) ∷ []
unfolding components names idle split cut grow
dot_name = refl

-- `//a/./b/` is spelt `/a/b`
spelt : normal (47 ∷ 47 ∷ 97 ∷ 47 ∷ 46 ∷ 47 ∷ 98 ∷ 47 ∷ []) ≡ 47 ∷ 97 ∷ 47 ∷ 98 ∷ []
unfolding normal join slash is_root components names idle split cut grow
spelt = refl

-- the parent of `a` is the empty path
parent_of_name : is_parent [] (97 ∷ []) ≡ true
unfolding is_parent has_parent init is_root same components opening names idle split cut grow
parent_of_name = refl

-- the parent of `/a` is the root, which has none
parent_of_first : parent_of (47 ∷ 97 ∷ []) ≡ 47 ∷ []
unfolding parent_of init join slash is_root components names idle split cut grow
parent_of_first = refl

parent_of_root : has_parent (components (47 ∷ [])) ≡ false
unfolding has_parent is_root components names idle split cut grow
parent_of_root = refl

-- the ancestors of `/a//b` are `/a` and `/`
ancestors_of_two : ancestors (47 ∷ 97 ∷ 47 ∷ 47 ∷ 98 ∷ []) ≡ (47 ∷ 97 ∷ []) ∷ (47 ∷ []) ∷ []
unfolding ancestors fronts join slash is_root components names idle split cut grow
ancestors_of_two = refl

-- ---- spellings that are normal, and such as are not

-- `/` is normal
normal_root : is_normal (47 ∷ []) ≡ true
unfolding is_normal
normal_root = refl

-- `./a` is: a `.` stays as the very first part
normal_dot_first : is_normal (46 ∷ 47 ∷ 97 ∷ []) ≡ true
unfolding is_normal has_idle idle_slash
normal_dot_first = refl

-- `/..` is
normal_up : is_normal (47 ∷ 46 ∷ 46 ∷ []) ≡ true
unfolding is_normal has_idle idle_slash
normal_up = refl

-- `a//b` is not
not_slashes : is_normal (97 ∷ 47 ∷ 47 ∷ 98 ∷ []) ≡ false
unfolding is_normal has_idle idle_slash
not_slashes = refl

-- `a/./b` is not
not_dot_between : is_normal (97 ∷ 47 ∷ 46 ∷ 47 ∷ 98 ∷ []) ≡ false
unfolding is_normal has_idle idle_slash
not_dot_between = refl

-- `a/.` is not
not_dot_last : is_normal (97 ∷ 47 ∷ 46 ∷ []) ≡ false
unfolding is_normal has_idle idle_slash
not_dot_last = refl

-- `a/` is not
not_slash_last : is_normal (97 ∷ 47 ∷ []) ≡ false
unfolding is_normal has_idle idle_slash
not_slash_last = refl
