-- One law for each way out: `open_long`, `open_old`, `open_full`, `open_refused`, `open_created`.
use native.Mathlib.Omega.{arith}
use Rattle.pool_state.specs.InBuffers.{pool_rows, pool_dirs}
use Rattle.inner_open.proofs.Ways.{answered, found_row, some_ready, open_long, open_old, open_full, open_refused, open_created}
use Rattle.inner_open.proofs.open_write.Goals as goal

pub returns-then-path-gt-MAX_PATH : goal.returns-then-path-gt-MAX_PATH
returns-then-path-gt-MAX_PATH c =
    answered _ _ _ _ _ _ _ _ c.refused.ensures (open_long _ _ _ _ _ c.requires.pool c.if-path-gt-MAX_PATH.true)

pub find_row-i-requires : goal.find_row-i-requires
find_row-i-requires c =
    pool_rows _ c.requires.pool

pub reopen-requires-clause-ready : goal.reopen-requires-clause-ready
reopen-requires-clause-ready c =
    c.requires

pub reopen-requires-clause-i_lt_held : goal.reopen-requires-clause-i_lt_held
reopen-requires-clause-i_lt_held c =
    found_row _ _ _ _ _ c.find_row-i.ensures.row c.if-i-n.true

pub returns-then-i-n : goal.returns-then-i-n
returns-then-i-n c =
    open_old _ _ _ _ _ c.if-path-gt-MAX_PATH.false _ c.find_row-i.ensures.row c.if-i-n.true _ c.reopen.ensures

pub returns-then-free-eq0 : goal.returns-then-free-eq0
returns-then-free-eq0 c =
    answered _ _ _ _ _ _ _ _ c.refused-then-free-eq0.ensures
    (open_full _ _ _ _ _ c.if-path-gt-MAX_PATH.false _
    c.find_row-i.ensures.row c.if-i-n.false c.requires.pool c.if-free-eq0.true)

pub room-no-requires : goal.room-no-requires
room-no-requires c =
    (pool_dirs _ c.requires.pool, omega arith)

pub returns-then-no-ne0 : goal.returns-then-no-ne0
returns-then-no-ne0 c =
    answered _ _ _ _ _ _ _ _ c.refused-then-no-ne0.ensures
    (open_refused _ _ _ _ _ c.if-path-gt-MAX_PATH.false _ c.find_row-i.ensures.row
    c.if-i-n.false c.requires.pool
    c.if-free-eq0.false _ c.room-no.ensures c.if-no-ne0.true)

pub create-requires : goal.create-requires
create-requires c =
    let all = some_ready _ _ _ c.requires c.if-free-eq0.false c.if-path-gt-MAX_PATH.false _ c.room-no.ensures
    c.if-no-ne0.false in
    record { ready = all.0; free_nonzero = all.1.0; path_len_bound = all.1.1 }

pub returns : goal.returns
returns c =
    open_created _ _ _ _ _ c.if-path-gt-MAX_PATH.false _ c.find_row-i.ensures.row c.if-i-n.false
    c.requires.pool c.if-free-eq0.false _ c.room-no.ensures
    c.if-no-ne0.false _ c.create.ensures
