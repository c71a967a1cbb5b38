-- One law for each way out: `settle_stopped`, `settle_done`.
use Rattle.inner_rename.proofs.Ways.{row_ready, bind_ready, settle_stopped, settle_done}
use Rattle.inner_rename.proofs.settle.Goals as goal

pub vacate-freed-requires-clause-ready : goal.vacate-freed-requires-clause-ready
vacate-freed-requires-clause-ready c =
    c.requires.ready

pub vacate-freed-requires-clause-fact : goal.vacate-freed-requires-clause-fact
vacate-freed-requires-clause-fact c =
    c.requires.fact

pub bind_row-requires : goal.bind_row-requires
bind_row-requires c =
    row_ready _ _ c.requires.ready _ _ _ _ c.requires.fact c.requires.i_lt_held.0 c.requires.i_lt_held.1 c.requires.i_lt_held.2 _ _ _ _ c.vacate-freed.ensures

pub returns-then-last-ne0 : goal.returns-then-last-ne0
returns-then-last-ne0 c =
    settle_stopped _ _ c.requires.ready _ _ _ _ c.requires.fact c.requires.i_lt_held.0 c.requires.i_lt_held.1 c.requires.i_lt_held.2 _ _ _ _ c.vacate-freed.ensures _ _
    c.if-last-ne0.true _ _ c.bind_row.ensures.rows c.bind_row.ensures.flat

pub bind-made-requires : goal.bind-made-requires
bind-made-requires c =
    let all = bind_ready _ _ c.requires.ready _ _ _ _ c.requires.fact c.requires.i_lt_held.0 c.requires.i_lt_held.1 c.requires.i_lt_held.2 _ _ _ _ c.vacate-freed.ensures in
    record { pool = all.0; path_len_bound = all.1 }

pub returns : goal.returns
returns c =
    settle_done _ _ c.requires.ready _ _ _ _ c.requires.fact c.requires.i_lt_held.0 c.requires.i_lt_held.1 c.requires.i_lt_held.2 _ _ _ _ c.vacate-freed.ensures _ _
    c.if-last-ne0.false _ c.bind-made.ensures
