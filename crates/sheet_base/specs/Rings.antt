-- Closed rings.
use Rattle.std.specs.Prelude.{◌-◌, Bool, true, false, ◌&&◌, nat_le, List, length, Some, None}
use Rattle.std.specs.Ordering.{int_eq}
use Rattle.plane_base.specs.declared.shapes.Pt.{Pt}
use Rattle.sheet_base.specs.Segments.{point_at}
use Rattle.sheet_base.specs.PointHeights.{Height}

-- whether the points are one
abbrev pub is_same : Pt → Pt → Bool
is_same p q = int_eq p.x q.x && int_eq p.y q.y

-- whether the heights are one, or both points have none
abbrev pub is_same_height : Height → Height → Bool
is_same_height None None = true
is_same_height None (Some z) = false
is_same_height (Some y) None = false
is_same_height (Some y) (Some z) = int_eq y z

-- whether the points are those of a closed ring: at least four, whose last one is the first again, to the millimetre
abbrev pub is_closed : List Pt → Bool
is_closed points = nat_le 4 (length points) && is_same (point_at points 0) (point_at points (length points - 1))
