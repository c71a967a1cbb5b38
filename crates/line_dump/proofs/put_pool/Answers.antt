-- Files, directories and the free count in a row: `pool_put`.
use native.Mathlib.Omega.{arith}
use Rattle.output.proofs.InParts.{after_pours}
use Rattle.line_answers.proofs.Digits.{spaced_few}
use Rattle.pool_state.specs.InBuffers.{pool_rows}
use Rattle.line_dump.proofs.Ways.{files_long, dirs_long, pool_few, pool_put}
use Rattle.line_dump.proofs.put_pool.Goals as goal

pub put_all_files-a-requires : goal.put_all_files-a-requires
put_all_files-a-requires c =
    (pool_rows _ c.requires, (pool_few _ c.requires).0, omega arith)

pub put_all_dirs-b-requires : goal.put_all_dirs-b-requires
put_all_dirs-b-requires c =
    ((pool_few _ c.requires).2, (pool_few _ c.requires).1, omega (arith, after_pours _ _ c.put_all_files-a.ensures, files_long _ _ _ _ (pool_rows _ c.requires) (pool_few _ c.requires).0))

pub put_bytes-c-requires : goal.put_bytes-c-requires
put_bytes-c-requires c =
    omega (arith, after_pours _ _ c.put_all_files-a.ensures, files_long _ _ _ _ (pool_rows _ c.requires) (pool_few _ c.requires).0, after_pours _ _ c.put_all_dirs-b.ensures, dirs_long c.args.pool.dirs c.args.dirs.now (pool_few _ c.requires).2 (pool_few _ c.requires).1)

pub put_number-d-requires : goal.put_number-d-requires
put_number-d-requires c =
    omega (arith, after_pours _ _ c.put_all_files-a.ensures, files_long _ _ _ _ (pool_rows _ c.requires) (pool_few _ c.requires).0, after_pours _ _ c.put_all_dirs-b.ensures, dirs_long c.args.pool.dirs c.args.dirs.now (pool_few _ c.requires).2 (pool_few _ c.requires).1, after_pours _ _ c.put_bytes-c.ensures)

pub put_byte-requires : goal.put_byte-requires
put_byte-requires c =
    omega (arith, after_pours _ _ c.put_all_files-a.ensures, files_long _ _ _ _ (pool_rows _ c.requires) (pool_few _ c.requires).0, after_pours _ _ c.put_all_dirs-b.ensures, dirs_long c.args.pool.dirs c.args.dirs.now (pool_few _ c.requires).2 (pool_few _ c.requires).1, after_pours _ _ c.put_bytes-c.ensures, after_pours _ _ c.put_number-d.ensures, spaced_few c.args.pool.free)

pub returns : goal.returns
returns c =
    pool_put _ c.requires _ c.put_all_files-a.ensures c.put_all_dirs-b.ensures c.put_bytes-c.ensures c.put_number-d.ensures c.put_byte.ensures
