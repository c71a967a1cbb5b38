-- Carried by `zeros_loaded`: rows that are loaded into zeros are zero filled.
use Rattle.std.proofs.Common.{arith, refl}
use Rattle.slot_records.specs.Records.{flat_of}
use Rattle.slot_records.specs.SameNumbers.{zeros_loaded}
use Rattle.slot_records.proofs.flat.Goals as goal

pub returns : goal.returns
unfolding flat_of
returns c = zeros_loaded 256 c.args.rows.now _ c.load.new.nums (omega arith) refl c.load.ensures
