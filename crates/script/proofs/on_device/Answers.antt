-- One law for each way out: `device_none`, `device_run`; the device's bytes and lengths are fronts of lent buffers.
use mathlib.Core.Path.{refl, ◌∙◌, ◌≡◌, ap, ap₂}
use mathlib.Core.List.{List}
use Prim.Native.Nat.{ℕ, ◌*◌}
use lib.ListN.{length, take}
use lib.Seq.{length-take-le}
use Rattle.output.specs.Writer.{shown, pours}
use Rattle.script_step.proofs.Ways.{fresh_front, fresh_length}
use Rattle.script.specs.Script.{whole, ran_m}
use Rattle.script.proofs.Ways.{device_none, device_run, starts_inside, front_back}
use native.Mathlib.Omega.{arith}
use Rattle.script.proofs.on_device.Goals as goal

pub returns-in_default : goal.returns-in_default
returns-in_default c =
    device_none c.args.script.now c.args.setup _ _ _ c.in_default.ensures
    (fresh_front (c.args.setup.slots * c.args.setup.size) 65536 0 c.filled-bytes.result
    c.filled-bytes.ensures c.requires.bytes) _ refl

pub on_rows-requires : goal.on_rows-requires
on_rows-requires c = (
  c.requires,
  starts_inside c.args.script.now c.args.setup _ _ _
      c.in-Some.ensures
      (fresh_front (c.args.setup.slots * c.args.setup.size) 65536 0 c.filled-bytes.result
      c.filled-bytes.ensures c.requires.bytes) _ refl c.requires.patches,
)

pub returns : goal.returns
returns c =
    let u = c.args.setup in
    let s : List ℕ = c.args.script.now in
    let o = shown c.args.out.now 0 in
    let b : List ℕ = c.patch.new.bytes in
    let h : List ℕ = c.lengths.new.phys in
    let k : ℕ = u.slots * u.size in
    let m : length (take u.slots c.filled-phys.result) ≡ u.slots = length-take-le u.slots
    c.filled-phys.result
    (omega (
      arith,
      fresh_length 64 0 c.filled-phys.result c.filled-phys.ensures,
      c.requires.slots,
    )) in
    let nb : length b ≡ k = c.patch.auto.bytes ∙ length-take-le k c.filled-bytes.result
    (omega (arith, fresh_length 65536 0 c.filled-bytes.result c.filled-bytes.ensures, c.requires.bytes)) in
    let nh : length h ≡ u.slots = c.lengths.auto.phys ∙ m in
    c.on_rows.ensures.output
    ∙ ap₂ (λ (x y : List ℕ). pours (whole (ran_m s u x y c.in-Some.from)) o)
    (front_back k b c.filled-bytes.result nb) (front_back u.slots h c.filled-phys.result nh)
    ∙ ap (λ (x : List ℕ). pours x o)
    (device_run s u _ b _ c.in-Some.ensures
    (fresh_front k 65536 0 c.filled-bytes.result c.filled-bytes.ensures c.requires.bytes) _ h _
    c.lengths.ensures m refl)
