-- Carried by `step_is`. The buffer is none, or a front of a fresh array.
use mathlib.Core.Path.{refl, sym, ap, subst, ◌∙◌, ◌≡◌}
use mathlib.Core.List.{List, []}
use Prim.Native.Nat.{ℕ, ◌<◌, ◌≤◌}
use lib.ListN.{length, take, replicate}
use lib.Seq.{length-take-le}
use Rattle.script_format.specs.declared.Op.{Op}
use Rattle.output.specs.Writer.{shown}
use Rattle.script_step.specs.Operate.{room}
use Rattle.script_step.proofs.Ways.{room_small, fresh_front, fresh_length, step_is}
use native.Mathlib.Omega.{arith}
use Rattle.script_step.proofs.step.Goals as goal

-- the buffer is inside of its array
fits : (o : Op) (n m x : ℕ) (w : List ℕ) → n ≡ room o → o.n < 65536 → w ≡ replicate m x → 65536 ≤ m → (n < 65536) × (n ≤ length w)
fits o n m x w e h f k =
    let s : n < 65536 = subst (λ (j : ℕ). j < 65536) (sym e) (room_small o h) in
    (s, omega (arith, s, fresh_length m x w f))

pub returns-then-n-eq0-clause-op : goal.returns-then-n-eq0-clause-op
returns-then-n-eq0-clause-op c =
    step_is _ _ _ c.args.op _ [] (shown c.args.out.now c.args.at) _
    (ap (λ (k : ℕ). replicate k 170) (sym c.if-n-eq0.true ∙ c.room-n.ensures)) c.answered.ensures.op

pub returns-then-n-eq0-clause-few : goal.returns-then-n-eq0-clause-few
returns-then-n-eq0-clause-few c =
    c.answered.ensures.few

pub slice_bounds-work-end : goal.slice_bounds-work-end
slice_bounds-work-end c =
    let f = fits c.args.op c.room-n.result 65536 170 (replicate 65536 170) c.room-n.ensures c.requires.2
    refl (omega arith) in
    omega (arith, f.0)

pub slice_bounds-answered-end-2 : goal.slice_bounds-answered-end-2
slice_bounds-answered-end-2 c =
    let f = fits c.args.op c.room-n.result 65536 170 (replicate 65536 170) c.room-n.ensures
    c.requires.2 refl (omega arith) in
    sym (length-take-le c.room-n.result (replicate 65536 170) f.1)

pub answered-requires-2 : goal.answered-requires-2
answered-requires-2 c =
    let f = fits c.args.op c.room-n.result 65536 170 (replicate 65536 170) c.room-n.ensures
    c.requires.2 refl (omega arith) in (
      c.requires.0,
      c.requires.1,
      subst (λ (k : ℕ). k < 65536)
          (sym (length-take-le c.room-n.result (replicate 65536 170) f.1)) f.0,
      c.requires.3,
    )

pub returns : goal.returns
returns c =
    let f = fits c.args.op c.room-n.result 65536 170 (replicate 65536 170) c.room-n.ensures
    c.requires.2 refl (omega arith) in record {
      op = step_is _ _ _ c.args.op _ (take c.room-n.result (replicate 65536 170))
          (shown c.args.out.now c.args.at) _
          (fresh_front c.room-n.result 65536 170 (replicate 65536 170) refl (omega (arith, f.0))
          ∙ ap (λ (k : ℕ). replicate k 170) c.room-n.ensures) c.answered-2.ensures.op;
      few = c.answered-2.ensures.few;
    }
