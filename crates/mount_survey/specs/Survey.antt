-- Who holds which path once the headers are read: 01, "Mount, adopt". Nothing is written here: a survey looks, and says what a mount will do.
use Rattle.std.specs.Prelude.{ℕ, suc, max, Bool, true, false, List, [], ◌∷◌, ◌++◌, leb, length, set}
use Rattle.slot_rows.specs.Rows.{Row, file, unbound, bound, none, at, find}
use Rattle.dir_rows.specs.Dirs.{registered}
use Rattle.mount_survey.specs.Heads.{Head, absent, idle, claim}

-- The rows as the holders stand, the slots that claim nothing, the losers in the order found, the directories with the claims' ancestors, and the counter.
pub record Survey : Type 0 where
  pub rows : List Row
  pub free : List ℕ
  pub losers : List ℕ
  pub dirs : List (List ℕ)
  pub counter : ℕ

abbrev pub survey : List Row → List ℕ → List ℕ → List (List ℕ) → ℕ → Survey
survey rs fs ls ds c = record { rows = rs; free = fs; losers = ls; dirs = ds; counter = c }

-- The row of a claim that holds its path: as its header says, so it is clean.
abbrev pub claim_row : List ℕ → ℕ → ℕ → Row
claim_row p g n = bound p (file g n false)

-- The newest slot claims nothing: its row is unbound, and it will join the queue. `asked` is what its header asks of the counter.
abbrev pub spare : ℕ → Survey → Survey
spare asked s = survey (s.rows ++ (none ∷ [])) (s.free ++ (length s.rows ∷ [])) s.losers s.dirs (max s.counter asked)

-- The newest slot claims p under generation g: it gets the row r behind the rows rs, and the losers ls are noted. "Ancestors of every claim are registered."
abbrev pub enter : List ℕ → ℕ → List Row → List ℕ → Row → Survey → Survey
enter p g rs ls r s = survey (rs ++ (r ∷ [])) s.free (s.losers ++ ls) (registered s.dirs p) (max s.counter (suc g))

-- Slot j holds the path. "An equal or higher holder makes the newcomer a loser; otherwise the holder loses." (`stands`: equal or higher.)
abbrev pub rival : List ℕ → ℕ → ℕ → ℕ → Bool → Survey → Survey
rival p g n j true s = enter p g s.rows (length s.rows ∷ []) none s
rival p g n j false s = enter p g (set s.rows j none) (j ∷ []) (claim_row p g n) s

-- The row that the search for the path came to holds it, or the path is free: then the newcomer holds it.
abbrev pub meet : List ℕ → ℕ → ℕ → ℕ → Row → Survey → Survey
meet p g n j (unbound h) s = enter p g s.rows [] (claim_row p g n) s
meet p g n j (bound q f) s = rival p g n j (leb g f.gen) s

-- One more slot, with its header. "Counter .. exceeds every valid header's generation."
unfoldable pub step : Head → Survey → Survey
step absent s = spare 0 s
step (idle g) s = spare (suc g) s
step (claim p g n) s = meet p g n (find p s.rows) (at s.rows (find p s.rows)) s

-- All of them, lowest slot first.
unfoldable pub scan : List Head → Survey → Survey
scan [] s = s
scan (h ∷ hs) s = scan hs (step h s)
