-- Segments apart from a box, and rings that have all points of a box on one side. Only private functions speak of them.
use Rattle.std.specs.Prelude.{◌≡◌, List, [], ◌∷◌, Option, None, Some}
use Rattle.plane_base.specs.declared.shapes.Pt.{Pt}
use Rattle.plane_base.specs.declared.shapes.Rect.{Rect}
use Rattle.plane_base.specs.Boxes.{HasPoint, AreApart}
use Rattle.ring_side.specs.declared.kinds.Side.{Side}
use Rattle.ring_side.specs.Rings.{Segment}
use Rattle.ring_side.specs.Sides.{side_of}

-- a box with both ends of the segment is apart from this one
pub record IsSegmentApart (rect : Rect) (s : Segment) : Type 0 where
  pub around : Rect
  pub from : HasPoint around s.from
  pub to : HasPoint around s.to
  pub apart : AreApart around rect

-- each of the segments is apart from the box
abbrev pub AreSegmentsApart : Rect → List Segment → Type 0
AreSegmentsApart rect [] = Unit {0}
AreSegmentsApart rect (s ∷ ss) = IsSegmentApart rect s × AreSegmentsApart rect ss

-- the corner of a box with the least numbers
abbrev pub corner_of : Rect → Pt
corner_of rect = record { x = rect.x0; y = rect.y0 }

-- all points of the box are on this side of the ring
abbrev pub HasSide : Rect → List Pt → Side → Type 0
HasSide rect ring side = (p : Pt) → HasPoint rect p → side_of ring p ≡ side

-- they are on the side that is stated
abbrev pub IsSideOfBox : Rect → List Pt → Option Side → Type 0
IsSideOfBox rect ring None = Unit {0}
IsSideOfBox rect ring (Some side) = HasSide rect ring side

-- all points of the one box are on one side of a ring, and all points of the other on that side of another
pub record IsQuiet (points written : List Pt) (p q : Rect) : Type 0 where
  pub side : Side
  pub source : HasSide p points side
  pub target : HasSide q written side
