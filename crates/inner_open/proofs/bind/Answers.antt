-- Carried by `bind_is`: the row and the directories, put together again.
use Rattle.pool_state.specs.InBuffers.{pool_rows, pool_dirs}
use Rattle.inner_open.proofs.Ways.{normal_fits, bind_is}
use Rattle.inner_open.proofs.bind.Goals as goal

pub bind_row-requires : goal.bind_row-requires
bind_row-requires c =
    (pool_rows _ c.requires.pool.0, c.requires.pool.1, c.requires.pool.2)

pub register_ancestors-requires : goal.register_ancestors-requires
register_ancestors-requires c =
    (pool_dirs _ c.requires.pool.0, c.requires.path_len_bound, normal_fits _ c.requires.pool.2)

pub returns : goal.returns
returns c =
    bind_is _ c.requires.pool.0 _ _ _ _ _ _ _ c.bind_row.ensures.rows c.bind_row.ensures.flat c.register_ancestors.ensures.rows c.register_ancestors.ensures.flat
