-- Carried by `tables_are`: the answers, then the device's table, then the record's.
use Rattle.script.proofs.Ways.{tables_are}
use native.Mathlib.Omega.{arith}
use Rattle.script.proofs.run_all.Goals as goal

pub put_record-a-requires : goal.put_record-a-requires
put_record-a-requires c =
    omega (
      arith,
      (c.run-ran.ensures.few),
      (c.requires.1),
    )

pub put_device-at-requires : goal.put_device-at-requires
put_device-at-requires c =
    omega (
      arith,
      (c.run-ran.ensures.few),
      (c.requires.1),
      c.put_record-a.ensures.few,
    )

pub returns : goal.returns
returns c =
    tables_are _ _ _ _ _ _ c.run-ran.ensures.ops c.put_record-a.ensures.«record» c.put_device-at.ensures
