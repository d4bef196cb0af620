-- Sides by segments one after another. Only private functions speak of them.
use Rattle.std.specs.Prelude.{Bool, true, false, ℤ, pos, ◌+ℤ◌, if◌then◌else◌, List, [], ◌∷◌}
use Rattle.plane_base.specs.Plane.{whole, turn_of}
use Rattle.plane_base.specs.declared.shapes.Pt.{Pt}
use Rattle.ring_side.specs.declared.kinds.Side.{Side}
use Rattle.ring_side.specs.declared.kinds.Side.TheVariants.{Inside, Border, Outside}
use Rattle.ring_side.specs.Rings.{Segment}
use Rattle.ring_side.specs.Sides.{is_on, does_cross}

-- the side of one segment
abbrev pub side_by : Pt → Segment → Side
side_by p s = if is_on p s then Border else if does_cross p s then Inside else Outside

-- the side of segments where some give the one side, and the others the other
abbrev pub both : Side → Side → Side
both Border t = Border
both Outside t = t
both Inside Border = Border
both Inside Inside = Outside
both Inside Outside = Inside

-- the side of segments, one after another
abbrev pub side_by_all : Pt → List Segment → Side
side_by_all p [] = Outside
side_by_all p (s ∷ ss) = both (side_by p s) (side_by_all p ss)

-- the turns of a point and both ends of each segment, together
abbrev pub turns : Pt → List Segment → ℤ
turns o [] = pos 0
turns o (s ∷ ss) = turn_of (whole o) (whole s.from) (whole s.to) +ℤ turns o ss

-- the side of a way past the point on the first axis, by whether its beginning and its end are higher than the point
abbrev pub side_by_ends : Bool → Bool → Side
side_by_ends true true = Outside
side_by_ends true false = Inside
side_by_ends false true = Inside
side_by_ends false false = Outside
