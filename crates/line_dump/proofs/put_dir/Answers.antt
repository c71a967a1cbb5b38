-- A letter and a path: `dir_put`.
use native.Mathlib.Omega.{arith}
use Prim.Native.Nat.{◌/◌, ◌%◌, ◌+◌, ◌-◌}
use lib.ListN.{drop, length-take}
use Rattle.output.proofs.InParts.{after_pours}
use Rattle.line_dump.proofs.Ways.{dir_put}
use Rattle.line_dump.proofs.put_dir.Goals as goal

pub put_path-requires : goal.put_path-requires
put_path-requires c =
    omega (arith, c.requires.1, after_pours _ _ c.put_byte-a.ensures, length-take (c.args.x / 512 + c.args.x % 512 - c.args.x / 512) (drop (c.args.x / 512) c.args.dirs.now))

pub returns : goal.returns
returns c =
    dir_put _ _ _ c.put_byte-a.ensures c.put_path.ensures
