-- Carried by `row_of_cells`: a row of the table, made of its cells.
use Rattle.std.proofs.Common.{◌≡◌, ℕ, zero, suc, ◌<◌, List, [], ◌∷◌, length, get_or, refl, arith}
use Rattle.script_format.specs.declared.Form.{Form}
use Rattle.script_format.specs.Format.{row, forms, form_of, no_form}
use Rattle.script_format.proofs.form_of.Goals as goal

-- a row's cells, and those of some rows
abbrev cells : Form → List ℕ
cells f =
    f.used ∷ f.slot ∷ f.flag ∷ f.len ∷ f.generation ∷ f.at ∷ f.n ∷ f.runs
    ∷ f.gives_slot ∷ f.gives_generation ∷ f.gives_len ∷ f.gives_count ∷ f.gives_yes ∷ []

abbrev cells_of : List Form → List (List ℕ)
cells_of [] = []
cells_of (r ∷ l) = cells r ∷ cells_of l

abbrev of_cells : List ℕ → Form
of_cells c =
    row (get_or c 0 0) (get_or c 1 0) (get_or c 2 0) (get_or c 3 0) (get_or c 4 0) (get_or c 5 0) (get_or c 6 0) (get_or c 7 0) (get_or c 8 0) (get_or c 9 0)
    (get_or c 10 0) (get_or c 11 0) (get_or c 12 0)

-- a row of the table, made of its cells; d is what stands for a row past the end
row_of_cells : (l : List Form) (i : ℕ) (d : List ℕ) → i < length l → of_cells (get_or (cells_of l) i d) ≡ get_or l i no_form
row_of_cells [] i d h = absurd (omega (arith, h))
row_of_cells (r ∷ l) zero d h = refl
row_of_cells (r ∷ l) (suc i) d h = row_of_cells l i d (omega (arith, h))

pub returns : goal.returns
unfolding form_of
returns c =
    row_of_cells forms c.args.code _ (omega (arith, c.requires))
