-- A row that is written: its spelling into the zeros of a free row, and then its length in front.
use Prim.Native.Nat.{ℕ, ◌+◌, ◌-◌, ◌*◌, ◌≤◌, ◌<◌}
use mathlib.Core.Path.{◌≡◌, ap, ◌∙◌}
use mathlib.Core.List.{List, [], ◌∷◌, ◌++◌}
use lib.ListN.{length, take, drop, replicate}
use native.Mathlib.Omega.{arith}
use Rattle.limits.specs.Limits.{max_path, dir_width}
use Rattle.le.specs.Le.{le, laid}
use Rattle.le.proofs.Parts.{mid_back, laid_front, laid_before}
use Rattle.lists.specs.Fronts.{drop_zeros}
use Rattle.lists.specs.Blocks.{pad, pad_fits, length_pad}
use Rattle.dir_rows.specs.Rows.{dir_row, dirs_of, FlatDirs}
use Rattle.dir_rows.proofs.InBuffer.{row_fits_lem, row_free, dir_pushed}

zeros_laid : (x : List ℕ) → length x ≤ max_path → laid (replicate max_path 0) 0 x ≡ pad max_path x
zeros_laid x h = laid_front (replicate max_path 0) x ∙ rw (drop_zeros (length x) max_path, pad_fits max_path x h)

module _ (cap m : ℕ) (b : List ℕ) (F : FlatDirs cap m b) (h : m < cap) (x : List ℕ) (s : length x ≤ max_path) where
  pub row_put : {part e : List ℕ} {k : ℕ} → part ≡ laid (take (m * dir_width + 2 + max_path - (m * dir_width + 2)) (drop (m * dir_width + 2) b)) 0 x → k ≡ length x
      → e ≡ laid (take (m * dir_width + 2) b ++ (part ++ drop (m * dir_width + 2 + max_path - (m * dir_width + 2)) (drop (m * dir_width + 2) b))) (m * dir_width) (le 2 k)
      → (dirs_of e (m + 1) ≡ dirs_of b m ++ (x ∷ [])) × FlatDirs cap (m + 1) e
  unfolding dir_row
  row_put {part} {e} {k} p q r =
      let z : part ≡ pad max_path x = p ∙ ap (λ (d : List ℕ). laid d 0 x) (row_free cap m b F h) ∙ zeros_laid x s in
      let l : length part ≡ max_path = ap length z ∙ length_pad max_path x in
      let f : take (m * dir_width + 2) b ++ (part ++ drop (m * dir_width + 2 + max_path - (m * dir_width + 2)) (drop (m * dir_width + 2) b)) ≡ laid b (m * dir_width + 2) (pad max_path x) =
      mid_back (m * dir_width + 2) max_path b part l ∙ ap (laid b (m * dir_width + 2)) z in
      let t : laid (laid b (m * dir_width + 2) (pad max_path x)) (m * dir_width) (le 2 k) ≡ laid b (m * dir_width) (le 2 (length x) ++ pad max_path x) =
      ap (λ (i : ℕ). laid (laid b (m * dir_width + 2) (pad max_path x)) (m * dir_width) (le 2 i)) q
      ∙ laid_before b (le 2 (length x)) (pad max_path x) (m * dir_width) (omega (arith, row_fits_lem cap m b F h)) in
      dir_pushed cap m b F h x e s (r ∙ ap (λ (d : List ℕ). laid d (m * dir_width) (le 2 k)) f ∙ t)
