-- What `put_block` ensures of the block, at the block that `encode` gives.
use Rattle.std.proofs.Common.{◌≡◌, ℕ, List, ap, ◌∙◌}
use Rattle.device.specs.declared.Geometry.{Geometry}
use Rattle.device.specs.Device.{Dev}
use Rattle.device_lent.specs.Put.{put_m}
use Rattle.device_lent.proofs.put_header.Goals as goal

put_same : (plan : List ℕ) (g : Geometry) (slot : ℕ) (x y : List ℕ) (d e : Dev) → x ≡ y → e ≡ put_m plan g slot x d → e ≡ put_m plan g slot y d
put_same plan g slot x y d e same w = w ∙ ap (λ (z : List ℕ). put_m plan g slot z d) same

pub returns-clause-same : goal.returns-clause-same
returns-clause-same c = put_same _ _ _ _ _ _ _ c.encode-block.ensures c.put_block.ensures.same
