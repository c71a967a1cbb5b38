-- The calls with a second look at the handle are the calls with one: a device call changes no row, so what was live is live.
use Prim.Native.Nat.{ℕ}
use native.Mathlib.Omega.{arith}
use mathlib.Core.Path.{◌≡◌, refl, sym}
use mathlib.Core.Logic.{◌↔◌, inl, inr}
use mathlib.Core.Bool.{Bool, true, false, cond, false≢true}
use Rattle.device.specs.Device.{Dev}
use Rattle.pool_steps.specs.World.{World}
use Rattle.pool_steps.specs.Steps.{fine_m}
use Rattle.pool_steps.specs.Outcome.{Outcome, None, NotRefused, only, by_device}
use Rattle.pool_steps.proofs.Numbers.{LastO, cut_last, store_last}
use Rattle.inner_handle.specs.Handles.{is_live, resized_m, write_at_m, set_len_m}
use Rattle.inner_handle.specs.Again.{look_again_m, write_twice_m, set_len_twice_m, WriteTwiceSame, SetLenTwiceSame, WriteSix, SetLenSix}

-- ---- the second look

-- One that finds what it looks for changes nothing, whether there is one or not.
found : {A : Type 0} (u t : Bool) (x y : A) → t ≡ true → cond u (cond t x y) x ≡ x
found true t x y e = rw e
found false t x y e = refl

again : (slot generation : ℕ) (d : Dev) (n : ℕ) (w : World) (t : Bool) → is_live slot generation w.state.rows ≡ t
    → cond t (look_again_m slot generation d n w.state) (only 6 w) ≡ cond t (by_device (resized_m d slot n w.state)) (only 6 w)
unfolding look_again_m
again slot generation d n w true e = found (fine_m d) (is_live slot generation w.state.rows) _ _ e
again slot generation d n w false e = refl

pub write_twice_same : WriteTwiceSame
unfolding write_twice_m write_at_m
write_twice_same plan g slot generation pos src w = again slot generation _ _ w _ refl

pub set_len_twice_same : SetLenTwiceSame
unfolding set_len_twice_m set_len_m
set_len_twice_same plan g slot generation len w = again slot generation _ _ w _ refl

-- ---- 6, and no other way to it

not_six : (n : ℕ) → NotRefused n → n ≡ 6 → ⊥
not_six n (inl e) z = omega arith
not_six n (inr (inl e)) z = omega arith
not_six n (inr (inr e)) z = omega arith

six : (t : Bool) (o : Outcome None World) (w : World) → LastO o → (cond t o (only 6 w)).out ≡ 6 ↔ t ≡ false
six true o w h = (λ e. absurd (not_six o.out h e), λ e. absurd (false≢true (sym e)))
six false o w h = (λ e. refl, λ e. refl)

pub write_six : WriteSix
unfolding write_at_m resized_m
write_six plan g slot generation pos src w = six (is_live slot generation w.state.rows) _ w (store_last plan g slot pos src w.dev)

pub set_len_six : SetLenSix
unfolding set_len_m resized_m
set_len_six plan g slot generation len w = six (is_live slot generation w.state.rows) _ w (cut_last plan g slot len w.dev)
