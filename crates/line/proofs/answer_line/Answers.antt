-- One law for each command: it lies in its line, and is what the line asks for.
use native.Mathlib.Omega.{arith}
use Rattle.line.proofs.Ways.{create_fits, sync_fits, remove_fits, move_fits, create_line, sync_line, remove_line, move_line, dump_line, what_line}
use Rattle.line.proofs.answer_line.Goals as goal

pub slice_bounds-create-count : goal.slice_bounds-create-count
slice_bounds-create-count c =
    create_fits _ _ c.parse-command.ensures _ c.in-Create.is

pub slice_bounds-create-start : goal.slice_bounds-create-start
slice_bounds-create-start c =
    create_fits _ _ c.parse-command.ensures _ c.in-Create.is

pub returns-in-Create : goal.returns-in-Create
returns-in-Create c =
    create_line _ _ c.parse-command.ensures _ _ _ c.in-Create.is c.create.ensures

pub slice_bounds-sync-count : goal.slice_bounds-sync-count
slice_bounds-sync-count c =
    sync_fits _ _ c.parse-command.ensures _ c.in-Sync.is

pub slice_bounds-sync-start : goal.slice_bounds-sync-start
slice_bounds-sync-start c =
    sync_fits _ _ c.parse-command.ensures _ c.in-Sync.is

pub returns-in-Sync : goal.returns-in-Sync
returns-in-Sync c =
    sync_line _ _ c.parse-command.ensures _ _ _ c.in-Sync.is c.sync.ensures

pub slice_bounds-end-count : goal.slice_bounds-end-count
slice_bounds-end-count c =
    remove_fits _ _ c.parse-command.ensures _ c.in-Remove.is

pub slice_bounds-end-start : goal.slice_bounds-end-start
slice_bounds-end-start c =
    remove_fits _ _ c.parse-command.ensures _ c.in-Remove.is

pub returns-in-Remove : goal.returns-in-Remove
returns-in-Remove c =
    remove_line _ _ c.parse-command.ensures _ _ _ c.in-Remove.is c.end.ensures

pub slice_bounds-end-count-in-Move : goal.slice_bounds-end-count-in-Move
slice_bounds-end-count-in-Move c =
    (move_fits _ _ c.parse-command.ensures _ _ c.in-Move.is).0

pub slice_bounds-end-start-in-Move : goal.slice_bounds-end-start-in-Move
slice_bounds-end-start-in-Move c =
    (move_fits _ _ c.parse-command.ensures _ _ c.in-Move.is).0

pub slice_bounds-end-end-in-Move : goal.slice_bounds-end-end-in-Move
slice_bounds-end-end-in-Move c =
    omega (arith, (move_fits _ _ c.parse-command.ensures _ _ c.in-Move.is).1)

pub overflow_add-j : goal.overflow_add-j
overflow_add-j c =
    omega (arith, (move_fits _ _ c.parse-command.ensures _ _ c.in-Move.is).1)

pub slice_bounds-end-count-in-Move-2 : goal.slice_bounds-end-count-in-Move-2
slice_bounds-end-count-in-Move-2 c =
    omega (arith, (move_fits _ _ c.parse-command.ensures _ _ c.in-Move.is).1)

pub slice_bounds-end-start-in-Move-2 : goal.slice_bounds-end-start-in-Move-2
slice_bounds-end-start-in-Move-2 c =
    omega (arith, (move_fits _ _ c.parse-command.ensures _ _ c.in-Move.is).1)

pub returns-in-Move : goal.returns-in-Move
returns-in-Move c =
    move_line _ _ c.parse-command.ensures _ _ _ _ c.in-Move.is c.end-in-Move.ensures

pub returns-in-Dump : goal.returns-in-Dump
returns-in-Dump c =
    dump_line _ _ c.parse-command.ensures _ _ c.in-Dump.is c.say_dump.ensures

pub returns-in-What : goal.returns-in-What
returns-in-What c =
    what_line _ _ c.parse-command.ensures _ _ c.in-What.is c.say_what.ensures
