-- One arm for each call: `ready` or `mounts_on` is what it needs, and `arm` says that the one that is asked for was made. Any other call is on
-- a path.
use Prim.Native.Nat.{ℕ}
use mathlib.Core.List.{List}
use Rattle.device.specs.declared.Geometry.{Geometry}
use Rattle.device.specs.Device.{Dev}
use Rattle.pool_state.specs.declared.Chosen.{Chosen}
use Rattle.pool_steps.specs.World.{Lent}
use Rattle.pool_steps.specs.Outcome.{Outcome, None}
use Rattle.mount.specs.Mount.{mount_m, mounted}
use Rattle.calls_gate.specs.Table.{takes_of}
use Rattle.std.proofs.Common.{Option}
use Rattle.inner_handle.specs.Handles.{Len, len_told}
use Rattle.calls_gate.specs.Calls.{filled, measured, inner_m}
use Rattle.calls_gate.proofs.Passed.{ready, mounts_on}
use Rattle.calls_gate.proofs.OnPath.{is_on_path}
use Rattle.calls_path.proofs.Arms.{arm, quiet_is, none_is}
use mathlib.Core.Path.{◌≡◌, refl, ap, sym, ◌∙◌}
use Rattle.calls.proofs.inner.Goals as goal

-- a mount of what was chosen is one of what the maker says
as-chosen : (plan : List ℕ) (g : Geometry) (h i : Chosen) → h ≡ i → (k : ℕ) (d : Dev) (x : Outcome None Lent)
    → x ≡ mounted (mount_m plan g h k d) → x ≡ mounted (mount_m plan g i k d)
as-chosen plan g h i e k d x q = q ∙ ap (λ (y : Chosen). mounted (mount_m plan g y k d)) e

-- a length that came back is the one of the call
file_len_made : (buf : List ℕ) (l : Lent) (x : Len) (d e : Option ℕ) → d ≡ e → len_told d ≡ x → measured buf l (len_told e) ≡ measured buf l x
file_len_made buf l x d e q f = ap (λ (o : Option ℕ). measured buf l (len_told o)) (sym q) ∙ ap (measured buf l) f

pub mount_rows-d-requires : goal.mount_rows-d-requires
unfolding takes_of
mount_rows-d-requires c =
    let m = mounts_on _ _ _ _ _ _ c.requires c.in-Mount.is refl in
    record { shape = rw c.choose-chosen.ensures m.0; nums_len = rw c.choose-chosen.ensures m.1 }

pub returns-in-Mount : goal.returns-in-Mount
unfolding inner_m
returns-in-Mount c =
    arm _ _ _ _ _ _ _ _ _ c.in-Mount.is
    (quiet_is _ _ _ _ _ _ _ _ _ _ c.quiet.ensures _ (as-chosen _ _ _ _ c.choose-chosen.ensures _ _ _ c.mount_rows-d.ensures))

pub adopt-d-requires : goal.adopt-d-requires
unfolding takes_of
adopt-d-requires c =
    ready _ _ _ _ _ _ c.requires c.in-Adopt.is refl

pub returns-in-Adopt : goal.returns-in-Adopt
unfolding inner_m
returns-in-Adopt c =
    arm _ _ _ _ _ _ _ _ _ c.in-Adopt.is (quiet_is _ _ _ _ _ _ _ _ _ _ c.quiet-in-Adopt.ensures _ c.adopt-d.ensures)

pub read_at-d-requires : goal.read_at-d-requires
unfolding takes_of
read_at-d-requires c =
    ready _ _ _ _ _ _ c.requires c.in-ReadAt.is refl

pub returns-in-ReadAt : goal.returns-in-ReadAt
unfolding inner_m
returns-in-ReadAt c =
    arm _ _ _ _ _ _ _ _ _ c.in-ReadAt.is (ap (filled) c.read_at-d.ensures)

pub write_at-d-requires : goal.write_at-d-requires
unfolding takes_of
write_at-d-requires c =
    ready _ _ _ _ _ _ c.requires c.in-WriteAt.is refl

pub returns-in-WriteAt : goal.returns-in-WriteAt
unfolding inner_m
returns-in-WriteAt c =
    arm _ _ _ _ _ _ _ _ _ c.in-WriteAt.is (quiet_is _ _ _ _ _ _ _ _ _ _ c.quiet-in-WriteAt.ensures _ c.write_at-d.ensures)

pub set_len-d-requires : goal.set_len-d-requires
unfolding takes_of
set_len-d-requires c =
    ready _ _ _ _ _ _ c.requires c.in-SetLen.is refl

pub returns-in-SetLen : goal.returns-in-SetLen
unfolding inner_m
returns-in-SetLen c =
    arm _ _ _ _ _ _ _ _ _ c.in-SetLen.is (quiet_is _ _ _ _ _ _ _ _ _ _ c.quiet-in-SetLen.ensures _ c.set_len-d.ensures)

pub file_len-d-requires : goal.file_len-d-requires
unfolding takes_of
file_len-d-requires c =
    (ready _ _ _ _ _ _ c.requires c.in-FileLen.is refl).pool

pub returns-in-FileLen : goal.returns-in-FileLen
unfolding inner_m
returns-in-FileLen c =
    arm _ _ _ _ _ _ _ _ _ c.in-FileLen.is (file_len_made _ _ _ _ _ c.in-Some.is c.file_len-d.ensures)

pub returns-in_default-d : goal.returns-in_default-d
unfolding inner_m
returns-in_default-d c =
    none_is _ _ _ _ _ _ _ _ _ _ c.quiet-in_default-d.ensures _
    (arm _ _ _ _ _ _ _ _ _ c.in-FileLen.is (file_len_made _ _ _ _ _ c.in_default-d.is c.file_len-d.ensures))

pub sync-d-requires : goal.sync-d-requires
unfolding takes_of
sync-d-requires c =
    ready _ _ _ _ _ _ c.requires c.in-Sync.is refl

pub returns-in-Sync : goal.returns-in-Sync
unfolding inner_m
returns-in-Sync c =
    arm _ _ _ _ _ _ _ _ _ c.in-Sync.is (quiet_is _ _ _ _ _ _ _ _ _ _ c.quiet-in-Sync.ensures _ c.sync-d.ensures)

pub on_path-requires-clause-passed : goal.on_path-requires-clause-passed
on_path-requires-clause-passed c =
    c.requires

pub on_path-requires-clause-path : goal.on_path-requires-clause-path
on_path-requires-clause-path c =
    let n = c.in_default in
    is_on_path _ n.not-Mount n.not-Adopt n.not-ReadAt n.not-WriteAt n.not-SetLen n.not-FileLen n.not-Sync

pub returns-in_default : goal.returns-in_default
returns-in_default c =
    c.on_path.ensures
