-- The row's numbers and its path: `file_put`.
use lib.ListN.{length}
use mathlib.Core.Path.{ap}
use Rattle.output.proofs.InParts.{after_pours}
use Rattle.line_dump.proofs.Ways.{numbers_few, file_put}
use Rattle.std.proofs.Common.{arith, rules}
use Rattle.line_dump.proofs.put_file.Goals as goal

pub put_path-requires : goal.put_path-requires
put_path-requires c =
    omega (arith, c.requires.2, after_pours _ _ c.put_numbers-a.ensures, numbers_few c.args.i c.row_generation-generation.result c.row_len-len.result c.from-dirty.result, ap length c.path.ensures, c.requires.0.short c.args.i)

pub returns : goal.returns
returns c =
    file_put _ _ _ _ _ _ _ _ c.row_generation-generation.ensures c.row_len-len.ensures (search rules) c.is_dirty.ensures c.path.ensures c.put_numbers-a.ensures c.put_path.ensures
