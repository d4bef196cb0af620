-- Points of corners that are near in the source.
use Rattle.std.proofs.Common.{◌≡◌, arith}
use Rattle.plane_base.specs.Plane.{whole, IsNear}
use Rattle.plane_base.specs.declared.shapes.Pt.{Pt}
use Rattle.tin_base.specs.declared.corners.Corner.{Corner}
use Rattle.tin_base.specs.declared.frames.Frame.TheVariants.{Source}
use Rattle.tin_base.specs.Limits.{IsNotFarBelow}
use Rattle.tin_base.specs.Triangulation.{place}

pub near_points : (a b : Pt) (c d : Corner) → whole a ≡ place Source c → whole b ≡ place Source d
    → IsNotFarBelow Source c d → IsNotFarBelow Source d c → IsNear a b
near_points a b c d is_a is_b one other = grind arith
