-- A length, then as many bytes, put out as a whole (`pours_then`).
use lib.ListN.{length}
use Rattle.le.specs.Le.{le}
use Rattle.le.proofs.Fields.{length_le}
use Rattle.output.specs.Writer.{run_of}
use Rattle.output.proofs.InParts.{after_pours, pours_then}
use native.Mathlib.Omega.{arith}
use Rattle.output.proofs.put_run.Goals as goal

pub put_bytes-requires : goal.put_bytes-requires
put_bytes-requires c =
    omega (arith, after_pours _ _ c.put_le-a.ensures, length_le 2 (length c.args.src.now))

pub returns : goal.returns
unfolding run_of
returns c =
    pours_then (le 2 (length c.args.src.now)) c.args.src.now _ c.put_le-a.ensures
    c.put_bytes.ensures
