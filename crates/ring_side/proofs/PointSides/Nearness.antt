-- Points that are near each other.
use Rattle.plane_base.specs.declared.shapes.Pt.{Pt}
use Rattle.plane_base.specs.Plane.{IsNear}

pub near_back : (p q : Pt) → IsNear p q → IsNear q p
near_back p q near = (near.1, near.0, near.3, near.2)
