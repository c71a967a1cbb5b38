-- What the program keeps from line to line.
use Rattle.std.specs.Prelude.{ℕ, ◌+◌, ◌≤◌, ◌≡◌, List, ◌++◌, length, take, drop}
use Rattle.slots.specs.declared.Progress.{Progress}

-- What is held lies in the line's buffer, and what waits in that of the answers.
pub record InBuffers (line out : ℕ) (r : Progress) : Type 0 where
  pub held : r.held ≤ line
  pub used : r.used ≤ out

-- A text is the end of what waits in the buffer of the answers.
pub record Waits (text out : List ℕ) (used : ℕ) : Type 0 where
  pub start : ℕ
  pub ends : used ≡ start + length text
  pub there : take (length text) (drop start out) ≡ text

-- What is held of a line, and a part of it behind that, as far as the buffer reaches.
abbrev pub extended : List ℕ → ℕ → List ℕ → List ℕ
extended line held part = take (length line) (take held line ++ part)
