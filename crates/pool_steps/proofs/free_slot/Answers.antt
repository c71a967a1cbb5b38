-- One law for each way out: `free_stopped`, `free_done`.
use native.Mathlib.Omega.{arith}
use mathlib.Core.Path.{ap}
use mathlib.Core.List.{[]}
use Rattle.header.specs.declared.Header.{Header}
use Rattle.header.specs.Block.{encoded}
use Rattle.pool_steps.proofs.Ways.{free_path, free_stopped, free_done}
use Rattle.pool_steps.proofs.free_slot.Goals as goal

pub put_header-put-requires-clause-shape : goal.put_header-put-requires-clause-shape
put_header-put-requires-clause-shape c =
    c.requires

pub put_header-put-requires-clause-path_len : goal.put_header-put-requires-clause-path_len
put_header-put-requires-clause-path_len c =
    free_path _ _ c.free-free.ensures

pub returns-then-last-ne0 : goal.returns-then-last-ne0
returns-then-last-ne0 c =
    let same = ap (λ (x : Header). encoded x []) c.free-free.ensures in
    record {
      same = free_stopped _ _ _ _ _ _ _ _ _ same c.put_header-put.ensures.same c.if-last-ne0.true;
      kept = c.put_header-put.ensures.kept;
    }

pub data_truncate-requires-clause-shape : goal.data_truncate-requires-clause-shape
data_truncate-requires-clause-shape c =
    c.put_header-put.ensures.kept

pub data_truncate-requires-clause-slot_in_bounds : goal.data_truncate-requires-clause-slot_in_bounds
data_truncate-requires-clause-slot_in_bounds c =
    omega (arith, c.requires.1, c.put_header-put.auto.phys)

pub returns : goal.returns
returns c =
    let same = ap (λ (x : Header). encoded x []) c.free-free.ensures in
    record {
      same = free_done _ _ _ _ _ _ _ _ _ same c.put_header-put.ensures.same _ c.if-last-ne0.false
          c.data_truncate.ensures.same;
      kept = c.data_truncate.ensures.kept;
    }
