-- Headers as rows of the table, and rows as claims: how a survey lies in the lent buffers. 01, "Mount, adopt".
use Rattle.std.specs.Prelude.{ℕ, suc, max, min, cond, List, [], ◌∷◌, map, eqb, leb, length, take, drop}
use Rattle.limits.specs.Limits.{last_counter}
use Rattle.slot_rows.specs.Rows.{Row, unbound, bound, none, at, find}
use Rattle.mount_survey.specs.Heads.{Head, absent, idle, claim}
use Rattle.mount_survey.specs.Survey.{survey, claim_row, scan}

-- A claim stands in its slot's row, clean; a slot that claims nothing keeps a row of zeros.
unfoldable pub row_of : Head → Row
row_of absent = none
row_of (idle g) = none
row_of (claim p g n) = claim_row p g n

-- What a row claims.
unfoldable pub claim_of : Row → Head
claim_of (unbound g) = absent
claim_of (bound p f) = claim p f.gen f.len

-- ---- "Counter .. exceeds every valid header's generation"

-- What a generation asks of the counter: one more. Above 2^63 there is no generation to give (9), and one more than 2^64 - 1 must not wrap.
abbrev pub asks_for : ℕ → ℕ
asks_for g = suc (min g last_counter)

unfoldable pub asks : Head → ℕ
asks absent = 0
asks (idle g) = asks_for g
asks (claim p g n) = asks_for g

-- The most that one of them asks: every valid header counts, in use or not.
unfoldable pub asked_of : List Head → ℕ
asked_of [] = 0
asked_of (h ∷ hs) = max (asks h) (asked_of hs)

-- ---- losers

-- The losers, in the order found, where the rows from n on are claims that come one after the other on top of the rows below.
unfoldable pub losers_of : ℕ → List Row → List ℕ
losers_of n rs = (scan (map claim_of (drop n rs)) (survey (take n rs) [] [] [] 0)).losers

-- A row with its mark: one that is marked has lost, and holds nothing.
unfoldable pub left : ℕ → Row → Row
left x r = cond (eqb x 0) r none

-- The rows with their marks.
unfoldable pub live : List ℕ → List Row → List Row
live [] rs = rs
live (x ∷ xs) [] = []
live (x ∷ xs) (r ∷ rs) = left x r ∷ live xs rs

-- The slot that loses where a claim of generation g comes as slot i and row j was found to hold its path: i or j; m says that none does.
abbrev pub beaten : ℕ → ℕ → ℕ → ℕ → Row → ℕ
beaten m i g j (unbound h) = m
beaten m i g j (bound q f) = cond (leb g f.gen) i j

-- The slot that loses where the row r comes behind the rows rs.
unfoldable pub loser_of : ℕ → List Row → Row → ℕ
loser_of m rs (unbound h) = m
loser_of m rs (bound p f) = beaten m (length rs) f.gen (find p rs) (at rs (find p rs))
