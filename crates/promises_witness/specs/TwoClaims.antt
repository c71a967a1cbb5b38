-- Demand 3 is not empty: a card whose two slots claim one path, mounted in one part and in two, where the header write of the loser's
-- release fails.
use Rattle.std.specs.Prelude.{ℕ, ◌*◌, List, [], ◌∷◌, ◌++◌, ◌≡◌, refl, replicate}
use Rattle.std.proofs.lemmas.List.{length-replicate}
use Rattle.header.specs.Block.{bound_header, encoded}
use Rattle.device.specs.declared.Place.{Place}
use Rattle.device.specs.declared.Geometry.{Geometry}
use Rattle.slot_records.specs.Records.{none}
use Rattle.pool_state.specs.State.{choosing}
use Rattle.pool_steps.specs.World.{Ready}
use Rattle.mount.specs.Mount.{zero_pool}
use Rattle.pool.specs.Face.{Asked, Left, lent_of}
use Rattle.promises_mount.specs.Words.{Faultless}
use Rattle.promises_mount.specs.Mounts.{Trial}
use Rattle.promises.specs.Face.{Lending, number, left_of}
use Rattle.promises.specs.Demand3.{Mounted, QuietMount, Ways, Premises, QuietOne, QuietTwo}
use Rattle.promises.specs.Edges.{Mounting, Accepted}
use Rattle.promises.specs.Incident.{TwoTiles}

-- The first place of a plan.
abbrev pub start : Place
start = record { at = 0; last = 0 }

abbrev pub small : Geometry
small = record { size = 512 }

-- A slot that claims `a` under a generation.
abbrev pub claiming : ℕ → List ℕ
claiming generation = encoded (bound_header 1 0 generation) (97 ∷ [])

-- The header reads are left alone, and the first write fails.
abbrev pub failing : List ℕ
failing = 0 ∷ 0 ∷ 1 ∷ []

-- Slot 0 claims `a` under generation 1, slot 1 under 2.
abbrev pub trial : Trial
trial = record {
  geometry = small;
  bytes = claiming 1 ++ claiming 2;
  phys = 512 ∷ 512 ∷ [];
  chosen = choosing 2 0;
  n = 1;
  m = 1;
  plan_one = failing;
  place_one = start;
  plan_two = failing;
  place_two = start;
  plan_three = [];
  place_three = start;
}

-- Two slot rows and no directory rows.
abbrev pub rows : Lending (choosing 2 0)
rows = record {
  rows = none ∷ none ∷ [];
  names = replicate 960 0;
  dirs = [];
  pool = zero_pool;
  first = [];
  second = [];
  buf = [];
  slot_rows_lem = refl;
  slot_names = length-replicate {A = ℕ} 960 0;
  dir_rows_lem = refl;
}

-- The incident's two tiles, in an accepted mount of the same card.
unfoldable pub TwoTilesMet : Type 0
TwoTilesMet = (m : Mounting) × Accepted m × TwoTiles m

-- The premises of demand 3 hold of it, and a release fails in either way.
unfoldable pub Demand3Met : Type 0
Demand3Met = (w : Ways trial) × Premises trial w × (QuietOne trial w → ⊥) × (QuietTwo trial w → ⊥)

-- The rule's premises are met by the one mount, so the rule holds of it.
unfoldable pub MountRuleMet : Type 0
MountRuleMet = (x : Asked) × (y : Left) × Mounted x 2 y

-- A mount that is done: of the first slot; it makes a pool on its device.
unfoldable pub APoolIsMade : Type 0
APoolIsMade = (x : Asked) × (y : Left) × (number y ≡ 0) × Ready x.geometry (left_of y)

-- A call on a pool with its device: the adoption of the second slot, whose release fails; it leaves a pool on its device.
unfoldable pub APoolStays : Type 0
APoolStays = (x : Asked) × (y : Left) × Ready x.geometry (lent_of x) × Ready x.geometry (left_of y)

-- A plan with no byte 1 or 2: no release of the mount under it fails.
unfoldable pub FaultlessMet : Type 0
FaultlessMet = (x : Asked) × Faultless x.plan x.at × QuietMount x 2
