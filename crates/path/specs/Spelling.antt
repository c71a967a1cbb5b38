-- Normal spelling told from the bytes of a text: 01, "Path equality". 47 is `/` and 46 is `.`.
use Rattle.std.specs.Prelude.{ℕ, Bool, true, false, cond, not, ◌&&◌, ◌||◌, List, [], ◌∷◌, length, ◌==◌, nat_lt, slice_index_or}

-- Of three bytes in a row the first is a slash that stands before another slash or before a part `.`.
unfoldable pub idle_slash : ℕ → ℕ → ℕ → Bool
idle_slash a b c = a == 47 && (b == 47 || (b == 46 && c == 47))

-- Some slash of the text does. The end of the text counts as a slash.
unfoldable pub has_idle : List ℕ → Bool
has_idle [] = false
has_idle (a ∷ s) = idle_slash a (slice_index_or s 0 47) (slice_index_or s 1 47) || has_idle s

-- A text of fewer than two bytes is spelt normally, any other if none of its slashes is idle.
unfoldable pub is_normal : List ℕ → Bool
is_normal s = cond (nat_lt (length s) 2) true (not (has_idle s))
