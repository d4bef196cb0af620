-- The laws of the distance of two segments and of their nearest end.
use Rattle.std.specs.Prelude.{◌≡◌, ◌↔◌, ℕ}
use Rattle.plane_base.specs.Plane.{Point}
use Rattle.plane_base.specs.declared.shapes.Pt.{Pt}
use Rattle.seg_gap.specs.Gaps.{IsOfSegment, IsGap}
use Rattle.seg_gap.specs.Ends.{IsNearestEnd}

-- two segments have at most one gap
abbrev pub GapIsOne : Type 0
GapIsOne = (a b c d : Pt) (first second : ℕ) → IsGap a b c d first → IsGap a b c d second → first ≡ second

-- and they have one
abbrev pub GapExists : Type 0
GapExists = (a b c d : Pt) → (gap : ℕ) × IsGap a b c d gap

-- where they share a point, it is 0
abbrev pub SegmentsThatShareAPointHaveNoGap : Type 0
SegmentsThatShareAPointHaveNoGap =
    (a b c d : Pt) (p : Point) (gap : ℕ) → IsOfSegment a b p → IsOfSegment c d p → IsGap a b c d gap ↔ (gap ≡ 0)

-- the gap is the same in the other order, and from the other end of the first segment
pub record IsAlike (a b c d : Pt) (gap : ℕ) : Type 0 where
  pub exchanged : IsGap c d a b gap
  pub reversed : IsGap b a c d gap

abbrev pub GapIsSymmetric : Type 0
GapIsSymmetric = (a b c d : Pt) (gap : ℕ) → IsGap a b c d gap → IsAlike a b c d gap

-- two segments have at most one nearest end
abbrev pub NearestEndIsOne : Type 0
NearestEndIsOne = (a b c d first second : Pt) → IsNearestEnd a b c d first → IsNearestEnd a b c d second
    → first ≡ second

-- and they have one
abbrev pub NearestEndExists : Type 0
NearestEndExists = (a b c d : Pt) → (end : Pt) × IsNearestEnd a b c d end
