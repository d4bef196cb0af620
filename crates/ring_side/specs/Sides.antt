-- The side of a ring that a point is on, and the direction of a ring.
use Rattle.std.specs.Prelude.{ℕ, ◌%◌, ◌==◌, ℤ, pos, ◌+ℤ◌, ◌-ℤ◌, ◌*ℤ◌, Bool, true, false, not, ◌&&◌, if◌then◌else◌, int_lt, List, [], ◌∷◌, count_by}
use Rattle.std.specs.Int.{int_min, int_max}
use Rattle.std.specs.Ordering.{int_eq}
use Rattle.plane_base.specs.declared.shapes.Pt.{Pt}
use Rattle.plane_base.specs.Plane.{Point, whole, turn_of, along}
use Rattle.ring_side.specs.declared.kinds.Side.{Side}
use Rattle.ring_side.specs.declared.kinds.Side.TheVariants.{Inside, Border, Outside}
use Rattle.ring_side.specs.declared.kinds.Way.{Way}
use Rattle.ring_side.specs.declared.kinds.Way.TheVariants.{Positive, Negative, Zero}
use Rattle.ring_side.specs.Rings.{Segment, no_point, segments_of}

-- ---- the points of a segment
-- whether a number is from the one of two others to the other
abbrev pub is_between : ℤ → ℤ → ℤ → Bool
is_between u v z = not (int_lt z (int_min u v)) && not (int_lt (int_max u v) z)

-- whether the point is one of the segment's: it is on its line, and on both axes between its ends (these are the mixes
-- of its ends, by a law)
abbrev pub is_on : Pt → Segment → Bool
is_on p s = int_eq (turn_of (whole s.from) (whole s.to) (whole p)) (pos 0) && (is_between s.from.x s.to.x p.x
    && is_between s.from.y s.to.y p.y)

-- ---- the segments that a ray from the point meets, along the first axis towards greater numbers
-- whether the end q is higher than the point
abbrev pub is_above : Pt → Pt → Bool
is_above p q = int_lt p.y q.y

-- the point at the height of p on a segment that rises from one end to the other
abbrev pub at_height : Pt → Pt → Pt → Point
at_height p low high = along (whole low) (whole high) (p.y -ℤ low.y) (high.y -ℤ low.y)

-- whether that point has a greater x than p
abbrev pub is_beyond : Pt → Pt → Pt → Bool
is_beyond p low high = int_lt (p.x *ℤ (at_height p low high).w) (at_height p low high).x

-- whether exactly one end of the segment is higher than p, and the segment's point at the height of p has a greater x
abbrev pub does_cross : Pt → Segment → Bool
does_cross p s = if is_above p s.from then (if is_above p s.to then false else is_beyond p s.to s.from)
    else (if is_above p s.to then is_beyond p s.from s.to else false)

-- ---- the side
-- whether the point is on one of the segments
abbrev pub is_on_some : Pt → List Segment → Bool
is_on_some p [] = false
is_on_some p (s ∷ ss) = if is_on p s then true else is_on_some p ss

abbrev pub is_odd : ℕ → Bool
is_odd n = n % 2 == 1

-- the side of segments that the point is on: on their border, or by how many of them cross the ray
abbrev pub side_among : Pt → List Segment → Side
side_among p ss = if is_on_some p ss then Border else if is_odd (count_by (does_cross p) ss) then Inside else Outside

-- the side of a ring
abbrev pub side_of : List Pt → Pt → Side
side_of ring p = side_among p (segments_of ring)

-- ---- the direction
-- the turn of the origin and both ends of a segment
abbrev pub sweep : Segment → ℤ
sweep s = turn_of (whole no_point) (whole s.from) (whole s.to)

abbrev pub sweeps : List Segment → ℤ
sweeps [] = pos 0
sweeps (s ∷ ss) = sweep s +ℤ sweeps ss

abbrev pub way_by : ℤ → Way
way_by z = if int_lt (pos 0) z then Positive else if int_lt z (pos 0) then Negative else Zero

-- the direction of a ring: the sign of twice its signed area
abbrev pub way_of : List Pt → Way
way_of ring = way_by (sweeps (segments_of ring))
