-- `register_path`: where the path is there its ancestors remain, else it is the first row more.
use Prim.Native.Nat.{ℕ, ◌+◌, ◌≤◌, ◌<◌}
use mathlib.Core.Path.{◌≡◌, sym, ap, ◌∙◌}
use mathlib.Core.List.{List, [], ◌∷◌, ◌++◌}
use mathlib.Core.Bool.{true, false}
use lib.ListN.{length, length-append}
use native.Mathlib.Omega.{arith}
use Rattle.path.specs.Path.{normal}
use Rattle.dir_rows.specs.Dirs.{has_path, registered, registered_with}
use Rattle.dir_rows.specs.Rows.{dirs_of, FlatDirs}
use Rattle.dir_rows.proofs.InBuffer.{length_dirs}
use Rattle.dir_rows.proofs.Registering.{with_held, with_new, length_registered}

module _ (cap m : ℕ) (b p : List ℕ) (l : length (registered_with (dirs_of b m) p) ≤ cap) where
  module _ (h : has_path (dirs_of b m) p ≡ true) where
    pub held_room : length (registered (dirs_of b m) p) ≤ cap
    held_room = omega (arith, ap length (with_held (dirs_of b m) p h))

    pub held_done : (e : List ℕ) (r : ℕ) → (dirs_of e r ≡ registered (dirs_of b m) p) × FlatDirs cap r e → (dirs_of e r ≡ registered_with (dirs_of b m) p) × FlatDirs cap r e
    held_done e r w = (w.0 ∙ sym (with_held (dirs_of b m) p h), w.1)

  module _ (h : has_path (dirs_of b m) p ≡ false) where
    pub new_room : m < cap
    new_room =
        omega
        (arith, ap length (with_new (dirs_of b m) p h), length_registered (dirs_of b m ++ (normal p ∷ [])) p, length-append (dirs_of b m) (normal p ∷ []), length_dirs b m)

    module _ (b₁ : List ℕ) (q : (dirs_of b₁ (m + 1) ≡ dirs_of b m ++ (normal p ∷ [])) × FlatDirs cap (m + 1) b₁) where
      first : registered (dirs_of b₁ (m + 1)) p ≡ registered_with (dirs_of b m) p
      first = ap (λ (ds : List (List ℕ)). registered ds p) q.0 ∙ sym (with_new (dirs_of b m) p h)

      pub next_room : length (registered (dirs_of b₁ (m + 1)) p) ≤ cap
      next_room = omega (arith, ap length first)

      pub next_done : (e : List ℕ) (r : ℕ) → (dirs_of e r ≡ registered (dirs_of b₁ (m + 1)) p) × FlatDirs cap r e
          → (dirs_of e r ≡ registered_with (dirs_of b m) p) × FlatDirs cap r e
      next_done e r w = (w.0 ∙ first, w.1)
