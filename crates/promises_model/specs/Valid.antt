-- A pool, as far as the model has it (01, "A pool: .."; sizes, text and normal spelling are matters of the rows themselves), and that
-- mount makes one and adopt keeps one, whatever fails. The statements stand here; proofs/Valid.antt proves them, for every kit.
use Rattle.std.specs.Prelude.{ℕ, ◌≤◌, ◌<◌, ◌^◌, ◌≡◌, ◌≢◌, true, length}
use Rattle.limits.specs.Limits.{last_counter}
use Rattle.lists.specs.Distinct.{In, Distinct}
use Rattle.promises_model.specs.Model.{Claim, Row, unbound, bound, Kit}
use Rattle.promises_model.specs.Model as M

-- A row's generation.
abbrev pub gen_of : {Path : Type 0} → Row Path → ℕ
gen_of (unbound g) = g
gen_of (bound c) = c.gen

module _ (K : Kit) where
  open K use {Path, same, Device, Has}

  pub record Valid (s : M.State K) : Type 0 where
    -- "bound paths are .. no two equal"
    pub paths : (i j : ℕ) (c d : Claim Path) → M.row_at K s.rows i ≡ bound c → M.row_at K s.rows j ≡ bound d → same c.path d.path ≡ true → i ≡ j
    -- "generations below the counter, counter 1 to 2^63"
    pub gens : (i : ℕ) → gen_of (M.row_at K s.rows i) < s.counter
    pub counter : (1 ≤ s.counter) × (s.counter ≤ last_counter)
    -- "the free queue holds distinct unbound slots"
    pub queued : (i : ℕ) → In i s.queue → (i < length s.rows) × ((c : Claim Path) → M.row_at K s.rows i ≢ bound c)
    pub once : Distinct s.queue
    -- "directories are .. distinct"
    pub dirs : Distinct s.dirs

  unfoldable pub AdoptKeeps : Type 0
  AdoptKeeps = (slots dir_rows n : ℕ) (s : M.State K) → Has s.device slots → M.Accepts K slots dir_rows n s → Valid s → Valid (M.adopt K n s)

  unfoldable pub MountMakes : Type 0
  MountMakes = (slots dir_rows n : ℕ) (w : Device) → Has w slots → M.Accepts K slots dir_rows n (M.empty K w) → Valid (M.mount K n w)
