-- One law for each way out: `record_pool`, `record_none`.
use mathlib.Core.Path.{◌∙◌, sym}
use Rattle.le.specs.Le.{le}
use Rattle.le.proofs.Fields.{length_le}
use Rattle.pool_state.specs.State.{bufs, view}
use Rattle.pool_test.proofs.Exactly.{is_pool_of}
use Rattle.output.specs.Writer.{shown}
use Rattle.output.proofs.InParts.{after_pours, pours_then}
use Rattle.script_tables.specs.Tables.{pool_shown}
use Rattle.script_tables.proofs.Turns.{record_pool, record_none}
use native.Mathlib.Omega.{arith}
use Rattle.script_tables.proofs.put_record.Goals as goal

pub put_pool-requires : goal.put_pool-requires
put_pool-requires c = (
  is_pool_of _ (sym c.pool_ok.ensures ∙ c.if-pool_ok.true),
  omega (arith, after_pours _ _ c.put_le-a.ensures, length_le 1 1, c.requires),
)

pub returns-then-pool_ok : goal.returns-then-pool_ok
returns-then-pool_ok c =
    let b = bufs c.args.pool c.args.nums.now c.args.names.now c.args.dirs.now in record {
      «record» = record_pool b _ (sym c.pool_ok.ensures ∙ c.if-pool_ok.true)
          (pours_then (le 1 1) (pool_shown (view b)) (shown c.args.out.now c.args.at) c.put_le-a.ensures
          c.put_pool.ensures.pool);
      few = omega (arith, after_pours _ _ c.put_le-a.ensures, length_le 1 1, c.put_pool.ensures.few);
    }

pub returns : goal.returns
returns c =
    let b = bufs c.args.pool c.args.nums.now c.args.names.now c.args.dirs.now in record {
      «record» = record_none b _ (sym c.pool_ok.ensures ∙ c.if-pool_ok.false)
          c.put_le.ensures;
      few = omega (arith, after_pours _ _ c.put_le.ensures, length_le 13 0);
    }
