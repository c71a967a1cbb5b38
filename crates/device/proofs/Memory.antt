-- The device of document 01 keeps the laws of AnyDevice.
use Prim.Native.Nat.{ℕ}
use mathlib.Core.Path.{◌≡◌, refl, ap, ◌∙◌}
use mathlib.Core.Bool.{not}
use mathlib.Core.List.{List}
use lib.ListN.{length}
use borrow.Author.Tests.{not-true}
use Rattle.device.specs.declared.Geometry.{Geometry}
use Rattle.device.specs.Device.{Dev, Shape, turn, stops, phys_of}
use Rattle.device.specs.Slots.{part_of}
use Rattle.device.specs.AnyDevice.{Device}
use Rattle.device.specs.Calls.{last_of, block_of, act_m, given_by, failed_m, whole_m}
use Rattle.device.proofs.CallByCall.{block_long, written, torn, failed_stays, other_stays, by_may, call_quiet, call_shape, call_slots, within_all, part_size, file_block, whole, call_moves, look_given, half_given, load_given, none_given, may_be, did_may, ok_may, call_ok, be_may, last_ok, call_calm, Same, acts}

-- The device over memory, with this plan and slots of this size.
abbrev pub memory : List ℕ → Geometry → Device
memory plan g =
    record {
      W = Dev;
      size = g.size;
      planned = length plan;
      Fit = λ d. Shape g d.bytes d.phys;
      slots = λ d. length d.phys;
      slot_bytes = λ d i. part_of g.size i d.bytes;
      phys = λ d i. phys_of i d;
      block = λ d i. block_of g i d;
      place = λ d. d.place.at;
      last = last_of;
      calm = λ d. not (stops (turn plan d.place));
      act = act_m plan g;
      given = given_by plan g;
      ok = whole_m plan g;
      failed = failed_m plan g;
      block_is = λ d i. refl;
      block_length = λ d i s r. block_long plan g d i s r;
      written = written plan g;
      torn = torn plan g;
      failed_stays = failed_stays plan g;
      other_stays = other_stays plan g;
      quiet_stays = λ d c j q. by_may plan g d c (λ x. Same plan g d x j) (refl, refl) (λ s r o. call_quiet plan g d c j q);
      fit_stays = λ d c f. by_may plan g d c (λ x. Shape g x.bytes x.phys) f (λ s r o. call_shape plan g d c s r);
      slots_stay = λ d c. by_may plan g d c (λ x. length x.phys ≡ length d.phys) refl (λ s r o. call_slots plan g d c);
      within = within_all plan g;
      slot_bytes_long = λ d i s r. part_size plan g d i s r;
      file_block = file_block plan g;
      whole = whole plan g;
      moves = λ d c s r o. ap (λ (x : Dev). x.place.at) (acts plan g d c s r o) ∙ call_moves plan g d c;
      looked = look_given plan g;
      half_looked = half_given plan g;
      loaded = load_given plan g;
      none_given = none_given plan g;
      did = λ d c f. may_be plan g d c (did_may plan g d c f).0;
      ok_did = λ d c f. rw (ok_may plan g d c f).0 (call_ok plan g d c (ok_may plan g d c f).1);
      last_failed = λ d c s r o. rw (be_may plan g d c s r o);
      last_ok = λ d c s r o q. rw (be_may plan g d c s r o) (last_ok plan g d c q);
      calm_ok = λ d c s r o k h. rw (be_may plan g d c s r o) (call_calm plan g d c s o (not-true (stops (turn plan d.place)) k) h);
    }
