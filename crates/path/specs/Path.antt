-- Paths as Rust's std::path has them on a platform with `/`: 01, "Path equality". A path is a list of bytes; 47 is `/` and 46 is `.`.
use Rattle.std.specs.Prelude.{None, Option, Some}
use Rattle.std.specs.declared.cmp.Ordering.{Ordering}
use Rattle.std.specs.Prelude.{ℕ, ◌+◌, ◌-◌, ◌*◌, ◌/◌, ◌%◌, Bool, true, false, cond, not, List, [], ◌∷◌, ◌++◌, map, length, drop, ◌==◌}
use Rattle.le.specs.Le.{unle}
use Rattle.lists.specs.Same.{same, same_bytes}
use Rattle.lists.specs.Order.{byte_order}

-- ---- components

-- A byte before a text with the parts ps: a slash ends an empty part, any other byte goes in front of the first part.
unfoldable pub grow : ℕ → List (List ℕ) → List (List ℕ)
grow b [] = (b ∷ []) ∷ []
grow b (p ∷ ps) = (b ∷ p) ∷ ps

unfoldable pub cut : Bool → ℕ → List (List ℕ) → List (List ℕ)
cut true b ps = [] ∷ ps
cut false b ps = grow b ps

-- The parts of a text are what stands between its slashes, empty ones too: `a//b/` has `a`, ``, `b` and ``.
unfoldable pub split : List ℕ → List (List ℕ)
split [] = [] ∷ []
split (b ∷ s) = cut (b == 47) b (split s)

-- Empty parts are dropped, and parts `.`.
unfoldable pub idle : List ℕ → Bool
idle [] = true
idle (b ∷ []) = b == 46
idle (b ∷ c ∷ p) = false

unfoldable pub names : List (List ℕ) → List (List ℕ)
names [] = []
names (p ∷ ps) = cond (idle p) (names ps) (p ∷ names ps)

-- A `.` stays as the very first part of a path without root.
unfoldable pub opening : List (List ℕ) → List (List ℕ)
opening [] = []
opening (p ∷ ps) = p ∷ names ps

-- A leading `/` is the root. Its component is the text `/`, which no part can be.
unfoldable pub components : List ℕ → List (List ℕ)
components [] = []
components (b ∷ s) = cond (b == 47) ((47 ∷ []) ∷ names (split s)) (opening (split (b ∷ s)))

-- ---- equality

-- Two spellings are of one path if they have the same components.
unfoldable pub same_path : List ℕ → List ℕ → Bool
same_path a b = same same_bytes (components a) (components b)

-- ---- the parent

-- The parent drops the last component.
unfoldable pub init : List (List ℕ) → List (List ℕ)
init [] = []
init (c ∷ []) = []
init (c ∷ d ∷ cs) = c ∷ init (d ∷ cs)

unfoldable pub is_root : List ℕ → Bool
is_root [] = false
is_root (b ∷ p) = b == 47

-- The root and the empty path have none.
unfoldable pub has_parent : List (List ℕ) → Bool
has_parent [] = false
has_parent (c ∷ []) = not (is_root c)
has_parent (c ∷ d ∷ cs) = true

-- Whether d spells the parent of f.
unfoldable pub is_parent : List ℕ → List ℕ → Bool
is_parent d f = cond (has_parent (components f)) (same same_bytes (components d) (init (components f))) false

-- ---- normal spelling

unfoldable pub slash : Bool → List ℕ
slash true = 47 ∷ []
slash false = []

-- Components joined with one `/`, none after the root; w says whether one stands before the first, too.
unfoldable pub join : Bool → List (List ℕ) → List ℕ
join w [] = []
join w (c ∷ cs) = slash w ++ (c ++ join (not (is_root c)) cs)

unfoldable pub normal : List ℕ → List ℕ
normal s = join false (components s)

-- The parent in normal spelling; the parent of `a` is the empty path.
unfoldable pub parent_of : List ℕ → List ℕ
parent_of s = join false (init (components s))

-- How long that is, or that there is none.
unfoldable pub parent_len : List ℕ → Option ℕ
parent_len s = cond (has_parent (components s)) (Some (length (parent_of s))) None

-- ---- ancestors

-- The proper fronts of a list that are not empty, longest first.
unfoldable pub fronts : List (List ℕ) → List (List (List ℕ))
fronts [] = []
fronts (c ∷ []) = []
fronts (c ∷ d ∷ cs) = map (λ (x : List (List ℕ)). c ∷ x) (fronts (d ∷ cs)) ++ (c ∷ []) ∷ []

-- The ancestors of a path but the empty one, nearest first, in normal spelling.
unfoldable pub ancestors : List ℕ → List (List ℕ)
ancestors s = map (join false) (fronts (components s))

-- ---- order

-- Listings go by byte order of normal spelling: 01, "read_dir".
unfoldable pub path_order : List ℕ → List ℕ → Ordering
path_order a b = byte_order (normal a) (normal b)

-- ---- key

unfoldable pub last_of : List (List ℕ) → List ℕ
last_of [] = []
last_of (c ∷ []) = c
last_of (c ∷ d ∷ cs) = last_of (d ∷ cs)

-- The last eight bytes of a text as a number, the first of them lowest.
unfoldable pub tail8 : List ℕ → ℕ
tail8 c = unle (drop (length c - 8) c)

-- The key of a text, whatever it spells, is worked out from its last eight bytes and its length. No document has it: it makes lookups fast.
unfoldable pub text_key : List ℕ → ℕ
text_key c = (tail8 c % 4294967296 + tail8 c / 4294967296 * 31 + length c % 65536) % 4294967296

-- The key of a path is that of its last component alone, so equal paths have one key.
unfoldable pub key_of : List ℕ → ℕ
key_of s = text_key (last_of (components s))
