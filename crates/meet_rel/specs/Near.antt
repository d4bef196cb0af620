-- Points that one call speaks of.

use Rattle.plane_base.specs.Plane.{IsNear, IsNearAll}
use Rattle.plane_base.specs.declared.shapes.Pt.{Pt}

-- four points, near to each other
abbrev pub AreNear : Pt → Pt → Pt → Pt → Type 0
AreNear a b c d = IsNearAll a b c × IsNearAll a b d × IsNear c d
