-- What a handle is good for: a stale one gets 6 from every call on it, and an open that is done tells a live one.
use Prim.Native.Nat.{ℕ, ◌<◌}
use mathlib.Core.Path.{◌≡◌, refl, sym, ap, subst, ◌∙◌}
use mathlib.Core.Logic.{inl}
use mathlib.Core.Bool.{false, false≢true}
use mathlib.Core.List.{List}
use Rattle.device.specs.declared.Geometry.{Geometry}
use Rattle.pool_steps.specs.World.{World, Lent, view_w, Ready}
use Rattle.pool_steps.specs.Outcome.{Outcome, outcome, flat_o}
use Rattle.inner_handle.specs.Handles.{filling, file_len_m, read_at_m, write_at_m, set_len_m, sync_m}
use Rattle.inner_handle.proofs.Stays.{stays}
use Rattle.calls_gate.specs.declared.Call.{Call}
use Rattle.calls_gate.specs.declared.Call.TheVariants.{OpenWrite, OpenRead, ReadAt, WriteAt, SetLen, FileLen, Sync}
use Rattle.calls_gate.specs.Replies.{Came}
use Rattle.calls_gate.specs.Table.{takes_of, text_if}
use Rattle.calls_gate.specs.Calls.{quiet, filled, inner_m, call_p}
use Rattle.promises_handles.specs.Handles.{TellsLive, StaleGetsSix, OpensGive}
use Rattle.promises_handles.proofs.Theorems.{went_in}
use Rattle.calls_gate.proofs.Opens.{open_write_tells, open_read_tells}
use Rattle.calls_gate.proofs.Inward.{goes_in, on_pool}

-- ---- calls on a handle

module _ (plan : List ℕ) (g : Geometry) (one two buf : List ℕ) (l : Lent) (R : Ready g l) where
  -- on a pool with its device a call that takes no path is the inner one
  is_in_lem : (c : Call) → (takes_of c).mounts ≡ false → (takes_of c).first ≡ false → (takes_of c).second ≡ false
      → call_p plan g c one two buf l ≡ inner_m plan g c one two buf l
  unfolding text_if
  is_in_lem c m f s = on_pool plan g c one two buf l R m (rw f refl) (rw s refl)

  -- nothing changes in the buffers
  unmoved : {A : Type 0} (r : A) (o : Outcome A World) → o ≡ outcome 6 r (view_w l) → flat_o o ≡ outcome 6 r l
  unmoved r o e = ap flat_o e ∙ sym (stays 6 r l R.pool)

pub stale_gets_six : StaleGetsSix
unfolding takes_of inner_m file_len_m read_at_m write_at_m set_len_m sync_m view_w
stale_gets_six plan g one two buf l slot generation R = (
  λ live. ap (λ (x : Came). x.number) (is_in_lem plan g one two buf l R (FileLen slot generation) refl refl refl) ∙ rw live refl,
  λ stale pos len. (
    is_in_lem plan g one two buf l R (FileLen slot generation) refl refl refl ∙ rw stale refl,
    is_in_lem plan g one two buf l R (ReadAt slot generation pos) refl refl refl
        ∙ ap filled (unmoved plan g one two buf l R (filling 0 buf) (read_at_m plan g slot generation pos buf (view_w l)) (rw stale refl)),
    is_in_lem plan g one two buf l R (WriteAt slot generation pos) refl refl refl
        ∙ ap (quiet buf) (unmoved plan g one two buf l R tt (write_at_m plan g slot generation pos one (view_w l)) (rw stale refl)),
    is_in_lem plan g one two buf l R (SetLen slot generation len) refl refl refl
        ∙ ap (quiet buf) (unmoved plan g one two buf l R tt (set_len_m plan g slot generation len (view_w l)) (rw stale refl)),
    is_in_lem plan g one two buf l R (Sync slot generation) refl refl refl
        ∙ ap (quiet buf) (unmoved plan g one two buf l R tt (sync_m plan g slot generation (view_w l)) (rw stale refl)),
  ),
)

-- ---- opens

pub opens_give : OpensGive
unfolding takes_of
opens_give plan g path two buf l = (
  λ z.
      let n = went_in plan g OpenRead path two buf l (inl z) in
      let e = goes_in plan g OpenRead path two buf l n in
      subst TellsLive (sym e) (open_read_tells plan g path two buf l (ap (λ (x : Came). x.number) (sym e) ∙ z)),
  λ how z.
      let n = went_in plan g (OpenWrite how) path two buf l (inl z) in
      let e = goes_in plan g (OpenWrite how) path two buf l n in
      subst TellsLive (sym e) (open_write_tells plan g path two buf l how n (ap (λ (x : Came). x.number) (sym e) ∙ z)),
)
