-- What is put out in parts is put out as a whole (`pours_then`): the place, the lengths, the bytes.
use mathlib.Core.List.{◌++◌}
use Rattle.lists.specs.Blocks.{cat}
use Rattle.le.specs.Le.{le}
use Rattle.le.proofs.Fields.{length_le}
use Rattle.output.proofs.InParts.{after_pours, pours_then}
use Rattle.script_tables.specs.Tables.{device_shown}
use native.Mathlib.Omega.{arith}
use Rattle.script_tables.proofs.put_device.Goals as goal

pub put_lengths-b-requires : goal.put_lengths-b-requires
put_lengths-b-requires c =
    omega (
      arith,
      after_pours _ _ c.put_le-a.ensures,
      (length_le 4 c.args.place.at),
    )

pub put_bytes-requires : goal.put_bytes-requires
put_bytes-requires c =
    omega (
      arith,
      after_pours _ _ c.put_le-a.ensures,
      (length_le 4 c.args.place.at),
      c.put_lengths-b.ensures.few,
    )

pub returns : goal.returns
unfolding device_shown
returns c =
    pours_then (le 4 c.args.place.at) (cat (le 4) c.args.phys.now ++ c.args.bytes.now) _
    c.put_le-a.ensures
    (pours_then (cat (le 4) c.args.phys.now) c.args.bytes.now _ c.put_lengths-b.ensures.puts
    c.put_bytes.ensures)
