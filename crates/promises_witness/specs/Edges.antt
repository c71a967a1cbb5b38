-- Table P is not empty: P1, P6 and P7 on cards of one and two slots of 512 bytes, through `pool::call`.
use Rattle.std.specs.Prelude.{ℕ, ◌-◌, ◌*◌, true, ◌≡◌, refl, List, [], ◌∷◌, ◌++◌, replicate}
use Rattle.std.proofs.lemmas.List.{length-replicate}
use Rattle.limits.specs.Limits.{last_counter}
use Rattle.device.specs.Device.{dev}
use Rattle.slot_records.specs.Records.{none}
use Rattle.pool_state.specs.State.{choosing}
use Rattle.mount.specs.Mount.{zero_pool}
use Rattle.calls_gate.specs.declared.Call.TheVariants.{Mount, OpenWrite}
use Rattle.calls_gate.specs.Table.{opening}
use Rattle.pool.specs.Face.{Asked, Left, Entered}
use Rattle.promises.specs.Face.{number, Lending, asking, ask_next}
use Rattle.promises_witness.specs.TwoClaims.{start, small, claiming, rows}

-- One slot row and no directory rows.
abbrev pub row : Lending (choosing 1 0)
row = record {
  rows = none ∷ [];
  names = replicate 480 0;
  dirs = [];
  pool = zero_pool;
  first = [];
  second = [];
  buf = [];
  slot_rows_lem = refl;
  slot_names = length-replicate {A = ℕ} 480 0;
  dir_rows_lem = refl;
}

-- A blank slot is mounted; what that left is asked to open a path.
abbrev pub blank : Asked
blank = asking small (dev (replicate 512 0) (0 ∷ []) start) [] row (Mount 1)

abbrev pub opens : List ℕ → Left → Asked
opens path y = ask_next small [] (OpenWrite (opening true)) path [] [] y

-- P1: a path of 480 bytes opens, and one of 481 gets 4.
unfoldable pub OpensOf480 : Type 0
OpensOf480 = (y : Left) → Entered blank y
    → (number y ≡ 0)
    × ((z : Left) → Entered (opens (replicate 480 97) y) z → number z ≡ 0)
    × ((z : Left) → Entered (opens (replicate 481 97) y) z → number z ≡ 4)

-- Slot 0 claims `a` under the last generation, 2^63 - 1; slot 1 is blank. Two slot rows are lent.
abbrev pub last : Asked
last = asking small (dev (claiming (last_counter - 1) ++ replicate 512 0) (512 ∷ 0 ∷ []) start) [] rows (Mount 2)

-- P6: it mounts, and to open `b` then gets 9.
unfoldable pub NineAfterTheLast : Type 0
NineAfterTheLast = (y z : Left) → Entered last y → Entered (opens (98 ∷ []) y) z → (number y ≡ 0) × (number z ≡ 9)

-- P7: a slot that claims `a` under generation 2^63 gets 9 at mount.
abbrev pub past : Asked
past = asking small (dev (claiming last_counter) (512 ∷ []) start) [] row (Mount 1)

unfoldable pub NineAtMount : Type 0
NineAtMount = (y : Left) → Entered past y → number y ≡ 9
