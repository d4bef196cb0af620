-- Points whose coordinates are small are near each other.
use Rattle.std.proofs.Common.{◌≤◌, ℤ, unsigned_abs, arith}
use Rattle.std.proofs.lemmas.Int.{ints}
use Rattle.plane_base.specs.Plane.{IsNear}
use Rattle.plane_base.specs.declared.shapes.Pt.{Pt}

near_numbers : (px py qx qy : ℤ) → unsigned_abs px ≤ 32768 → unsigned_abs py ≤ 32768 → unsigned_abs qx ≤ 32768
    → unsigned_abs qy ≤ 32768 → IsNear (record { x = px; y = py }) (record { x = qx; y = qy })
near_numbers px py qx qy a b c d = (omega (arith, ints), omega (arith, ints), omega (arith, ints), omega (arith, ints))

pub near_small : (p q : Pt) → unsigned_abs p.x ≤ 32768 → unsigned_abs p.y ≤ 32768 → unsigned_abs q.x ≤ 32768
    → unsigned_abs q.y ≤ 32768 → IsNear p q
near_small p q a b c d = near_numbers p.x p.y q.x q.y a b c d
