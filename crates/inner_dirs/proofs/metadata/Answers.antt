-- One law for each way out: `metadata_file`, `metadata_dir`, `metadata_none`.
use mathlib.Core.Path.{sym, ◌∙◌}
use Rattle.pool_state.specs.InBuffers.{pool_rows, pool_dirs}
use Rattle.inner_open.proofs.Ways.{dirs_fit}
use Rattle.inner_dirs.proofs.Ways.{metadata_file, metadata_dir, metadata_none}
use Rattle.inner_dirs.proofs.metadata.Goals as goal

pub find_row-i-requires : goal.find_row-i-requires
find_row-i-requires c =
    pool_rows _ c.requires

pub row_len-requires : goal.row_len-requires
row_len-requires c =
    (pool_rows _ c.requires, c.if-i-n.true)

pub returns-then-i-n : goal.returns-then-i-n
returns-then-i-n c =
    metadata_file _ _ _ c.find_row-i.ensures.row _ c.if-i-n.true c.row_len.ensures

pub dir_find-requires : goal.dir_find-requires
dir_find-requires c =
    dirs_fit _ _ _ (pool_dirs _ c.requires)

pub returns-then-dir_find : goal.returns-then-dir_find
returns-then-dir_find c =
    metadata_dir _ _ _ c.find_row-i.ensures.row c.if-i-n.false (sym c.dir_find.ensures ∙ c.if-dir_find.true)

pub returns : goal.returns
returns c =
    metadata_none _ _ _ c.find_row-i.ensures.row c.if-i-n.false (sym c.dir_find.ensures ∙ c.if-dir_find.false)
