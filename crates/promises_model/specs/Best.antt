-- Which claim a path goes to, from the customer's words alone: "Each path claimed by a valid in-use header goes to its highest generation,
-- lowest slot on a tie." `Best` speaks of the headers alone, and knows nothing of how a mount finds its answer.
use Rattle.std.specs.Prelude.{ℕ, ◌<◌, ◌≡◌, ◌≢◌, ◌⊎◌, ◌↔◌, true, false, List, length}
use Rattle.lists.specs.Distinct.{In, Distinct}
use Rattle.promises_model.specs.Model.{Claim, Head, claim, Row, bound, Kit}
use Rattle.promises_model.specs.Model as M

module _ (K : Kit) where
  open K use {Path, same, Dir, ancestors}

  -- Slot i, which claims c, is the best claim of its path among the first n headers H: each other claim of an equal path
  -- has a lower generation, or an equal one in a higher slot.
  pub record Best (H : ℕ → Head Path) (n i : ℕ) (c : Claim Path) : Type 0 where
    pub among : i < n
    pub claims : H i ≡ claim c
    pub over : (j : ℕ) (e : Claim Path) → j < n → j ≢ i → H j ≡ claim e → same c.path e.path ≡ true
        → (e.gen < c.gen) ⊎ ((e.gen ≡ c.gen) × (i < j))

  -- The rows are the rule's answer on the first n headers H.
  pub record Rule (H : ℕ → Head Path) (n : ℕ) (rows : List (Row Path)) : Type 0 where
    -- one row for each slot
    pub size : length rows ≡ n
    -- a row is bound exactly if its slot is the best claim of its path, and then to that header's path, generation and length
    pub holder : (i : ℕ) (c : Claim Path) → (M.row_at K rows i ≡ bound c) ↔ Best H n i c
    -- a path that is claimed has a best claim, and is found in that slot
    pub claimed : (p : Path) (j : ℕ) (e : Claim Path) → j < n → H j ≡ claim e → same p e.path ≡ true
        → (c : Claim Path) × (same p c.path ≡ true) × Best H n (M.find K p rows) c
    -- a path that no header claims isn't found
    pub unclaimed : (p : Path) → ((j : ℕ) (e : Claim Path) → j < n → H j ≡ claim e → same p e.path ≡ false) → M.find K p rows ≡ n

  -- 01, "Ancestors of every claim are registered": the directories are the ancestors of the claims among the first n headers H, each once.
  pub record Registered (H : ℕ → Head Path) (n : ℕ) (dirs : List Dir) : Type 0 where
    pub each : (d : Dir) (j : ℕ) (e : Claim Path) → j < n → H j ≡ claim e → In d (ancestors e.path) → In d dirs
    pub only : (d : Dir) → In d dirs → (j : ℕ) × (e : Claim Path) × (j < n) × (H j ≡ claim e) × In d (ancestors e.path)
    pub once : Distinct dirs
