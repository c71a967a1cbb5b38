-- An arm of a match over the calls: what it came to is what the call that is asked for comes to.
use Prim.Native.Nat.{ℕ}
use mathlib.Core.Path.{◌≡◌, refl, sym, ap, ◌∙◌}
use mathlib.Core.Bool.{Bool}
use mathlib.Core.List.{List}
use Rattle.device.specs.declared.Geometry.{Geometry}
use Rattle.device.specs.declared.Place.{Place}
use Rattle.device.specs.Device.{dev}
use Rattle.pool_state.specs.declared.Pool.{Pool}
use Rattle.pool_state.specs.State.{Bufs, bufs, view, IsPool}
use Rattle.pool_steps.specs.World.{Lent, lent, view_w, Ready}
use Rattle.pool_steps.specs.Outcome.{Outcome, outcome, flat_o, None}
use Rattle.std.proofs.Common.{Option}
use Rattle.inner_open.specs.declared.Reader.{Reader}
use Rattle.inner_open.specs.Files.{reader_told, open_read_m, remove_m}
use Rattle.inner_dirs.specs.declared.Meta.{Meta}
use Rattle.inner_dirs.specs.Folders.{meta_told, exists_m, metadata_m, sync_dir_m}
use Rattle.calls_gate.specs.declared.Call.{Call}
use Rattle.calls_gate.specs.declared.Call.TheVariants.{OpenRead, SyncDir, RemoveFile, Exists, Metadata}
use Rattle.calls_gate.specs.Replies.{Came, came, nothing}
use Rattle.calls_gate.specs.Table.{takes_of, refusal_of}
use Rattle.calls_gate.specs.Calls.{quiet, made, found, reading, described, inner_m}
use Rattle.calls_gate.proofs.Passed.{ready}
use Rattle.calls_gate.specs.declared.Went.{Went}
use Rattle.calls_path.specs.Quiet.{quietly}

-- What the call d comes to, where it is the one that is asked for.
pub arm : (plan : List ℕ) (g : Geometry) (c d : Call) (one two buf : List ℕ) (l : Lent) (x : Came) → c ≡ d
    → x ≡ inner_m plan g d one two buf l → x ≡ inner_m plan g c one two buf l
arm plan g c d one two buf l x e q = q ∙ ap (λ (y : Call). inner_m plan g y one two buf l) (sym e)

-- A result that tells nothing.
module _ (r : Went) (n : ℕ) (p : Place) (q : Pool) (b h m s d buf : List ℕ) (e : r ≡ quietly n p q) where
  abbrev given : Came
  given = came r.out r.told (lent (dev b h r.place) (bufs r.pool m s d)) buf

  pub quiet_is : (o : Outcome None Lent) → outcome n tt (lent (dev b h p) (bufs q m s d)) ≡ o → given ≡ quiet buf o
  quiet_is o f = rw e (ap (quiet buf) f)

  -- nor does any other that comes to the same
  pub none_is : (x : Came) → came n nothing (lent (dev b h p) (bufs q m s d)) buf ≡ x → given ≡ x
  none_is x f = rw e f

  pub made_is : (q₀ : Pool) (d₀ : List ℕ) (o : Outcome None Bufs) → outcome n tt (bufs q m s d) ≡ o
      → given ≡ made buf (lent (dev b h p) (bufs q₀ m s d₀)) o
  made_is q₀ d₀ o f = rw e (ap (made buf (lent (dev b h p) (bufs q₀ m s d₀))) f)

-- What two pairs of calls need, and that they were made, where they are asked for: the calls of a pair are of one shape, and only these tell
-- them apart.
module _ (plan : List ℕ) (g : Geometry) (c : Call) (one two buf : List ℕ) (l : Lent) where
  pub sync_dir_ready : refusal_of g c one two l ≡ 0 → c ≡ SyncDir → Ready g l
  unfolding takes_of
  sync_dir_ready z e = ready g c SyncDir one two l z e refl

  pub remove_file_ready : refusal_of g c one two l ≡ 0 → c ≡ RemoveFile → Ready g l
  unfolding takes_of
  remove_file_ready z e = ready g c RemoveFile one two l z e refl

  pub sync_dir_made : (r : Went) (n : ℕ) (p : Place) (q : Pool) (b h m s d : List ℕ) → r ≡ quietly n p q → c ≡ SyncDir
      → outcome n tt (lent (dev b h p) (bufs q m s d)) ≡ flat_o (sync_dir_m plan g one (view_w l))
      → came r.out r.told (lent (dev b h r.place) (bufs r.pool m s d)) buf ≡ inner_m plan g c one two buf l
  unfolding inner_m
  sync_dir_made r n p q b h m s d e k f = arm plan g c SyncDir one two buf l _ k (quiet_is r n p q b h m s d buf e _ f)

  pub remove_file_made : (r : Went) (n : ℕ) (p : Place) (q : Pool) (b h m s d : List ℕ) → r ≡ quietly n p q → c ≡ RemoveFile
      → outcome n tt (lent (dev b h p) (bufs q m s d)) ≡ flat_o (remove_m plan g one (view_w l))
      → came r.out r.told (lent (dev b h r.place) (bufs r.pool m s d)) buf ≡ inner_m plan g c one two buf l
  unfolding inner_m
  remove_file_made r n p q b h m s d e k f = arm plan g c RemoveFile one two buf l _ k (quiet_is r n p q b h m s d buf e _ f)

  pub exists_ready : refusal_of g c one two l ≡ 0 → c ≡ Exists → IsPool l.bufs
  unfolding takes_of
  exists_ready z e = (ready g c Exists one two l z e refl).pool

  pub metadata_ready : refusal_of g c one two l ≡ 0 → c ≡ Metadata → IsPool l.bufs
  unfolding takes_of
  metadata_ready z e = (ready g c Metadata one two l z e refl).pool

  pub exists_made : (t : Bool) → c ≡ Exists → t ≡ exists_m one (view l.bufs) → found buf l t ≡ inner_m plan g c one two buf l
  unfolding inner_m
  exists_made t k f = arm plan g c Exists one two buf l _ k (ap (found buf l) f)

  pub metadata_made : (d e : Option Meta) → d ≡ e → c ≡ Metadata → meta_told d ≡ metadata_m one (view l.bufs)
      → described buf l (meta_told e) ≡ inner_m plan g c one two buf l
  unfolding inner_m
  metadata_made d e q k f = arm plan g c Metadata one two buf l _ k (ap (λ (x : Option Meta). described buf l (meta_told x)) (sym q) ∙ ap (described buf l) f)

  pub open_read_made : (d e : Option Reader) → d ≡ e → c ≡ OpenRead → reader_told d ≡ open_read_m one (view l.bufs)
      → reading buf l (reader_told e) ≡ inner_m plan g c one two buf l
  unfolding inner_m
  open_read_made d e q k f = arm plan g c OpenRead one two buf l _ k (ap (λ (x : Option Reader). reading buf l (reader_told x)) (sym q) ∙ ap (reading buf l) f)
