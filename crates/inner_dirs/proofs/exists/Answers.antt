-- One law for each way out: `exists_file`, `exists_dir`.
use Rattle.pool_state.specs.InBuffers.{pool_rows, pool_dirs}
use Rattle.inner_open.proofs.Ways.{dirs_fit}
use Rattle.inner_dirs.proofs.Ways.{exists_file, exists_dir}
use Rattle.inner_dirs.proofs.exists.Goals as goal

pub find_row-i-requires : goal.find_row-i-requires
find_row-i-requires c =
    pool_rows _ c.requires

pub returns-then-i-n : goal.returns-then-i-n
returns-then-i-n c =
    exists_file _ _ _ c.find_row-i.ensures.row c.if-i-n.true

pub dir_find-requires : goal.dir_find-requires
dir_find-requires c =
    dirs_fit _ _ _ (pool_dirs _ c.requires)

pub returns : goal.returns
returns c =
    exists_dir _ _ _ c.find_row-i.ensures.row c.if-i-n.false _ c.dir_find.ensures
