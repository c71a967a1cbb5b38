-- What the story is told by: what a slot's header block says.
use Rattle.std.specs.Prelude.{None, Option, Some}
use Rattle.std.specs.Prelude.{ℕ, cond, not, List, eqb}
use Rattle.header.specs.Block.{block_len, decoded}
use Rattle.header.specs.declared.Header.{Header}
use Rattle.demo.specs.declared.Says.{Says}
use Rattle.demo.specs.declared.Says.TheVariants.{Nothing, Free, Claim}

-- 01, Mount: "In use with non-empty path: a claim." Any other header is of a free slot.
abbrev pub read_as : Option Header → Says
read_as None = Nothing
read_as (Some h) = cond (not h.in_use) (Free h.generation) (cond (eqb h.path_len 0) (Free h.generation) (Claim h))

-- What a whole block says.
unfoldable pub says_of : List ℕ → Says
says_of b = read_as (decoded b block_len)
