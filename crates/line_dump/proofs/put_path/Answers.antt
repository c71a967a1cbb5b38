-- Three parts in a row: `path_put`.
use Rattle.output.proofs.InParts.{after_pours}
use Rattle.line_dump.proofs.Ways.{path_put}
use native.Mathlib.Omega.{arith}
use Rattle.line_dump.proofs.put_path.Goals as goal

pub put_bytes-b-requires : goal.put_bytes-b-requires
put_bytes-b-requires c =
    omega (arith, after_pours _ _ c.put_byte-a.ensures)

pub put_byte-requires : goal.put_byte-requires
put_byte-requires c =
    omega (arith, after_pours _ _ c.put_byte-a.ensures, after_pours _ _ c.put_bytes-b.ensures)

pub returns : goal.returns
returns c =
    path_put _ _ c.put_byte-a.ensures c.put_bytes-b.ensures c.put_byte.ensures
