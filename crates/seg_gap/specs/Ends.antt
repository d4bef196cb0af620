-- Which written end of two segments is nearest to the other segment.
use Rattle.std.specs.Prelude.{◌≡◌, ◌*ℤ◌, ◌≤ℤ◌, ◌<ℤ◌}
use Rattle.plane_base.specs.Plane.{Point, whole}
use Rattle.plane_base.specs.declared.shapes.Pt.{Pt}
use Rattle.seg_gap.specs.Gaps.{IsOfSegment, square_between}

-- p and q are not farther from each other than r and s: squares are compared across, and nothing is divided
abbrev pub AreAsNear : Point → Point → Point → Point → Type 0
AreAsNear p q r s =
    (square_between p q *ℤ ((r.w *ℤ s.w) *ℤ (r.w *ℤ s.w))) ≤ℤ (square_between r s *ℤ ((p.w *ℤ q.w) *ℤ (p.w *ℤ q.w)))

-- they are nearer to each other
abbrev pub AreNearer : Point → Point → Point → Point → Type 0
AreNearer p q r s =
    (square_between p q *ℤ ((r.w *ℤ s.w) *ℤ (r.w *ℤ s.w))) <ℤ (square_between r s *ℤ ((p.w *ℤ q.w) *ℤ (p.w *ℤ q.w)))

-- p is as near to the segment from c to d as q is to that from e to f: for each place of this one, some place of that
-- one is as near
abbrev pub IsAsNearTo : Pt → Pt → Pt → Pt → Pt → Pt → Type 0
IsAsNearTo p c d q e f = (s : Point) → IsOfSegment e f s
    → (r : Point) × IsOfSegment c d r × AreAsNear (whole p) r (whole q) s

-- p is nearer to the one than q is to the other: some place of that one is nearer than all places of this one
abbrev pub IsNearerTo : Pt → Pt → Pt → Pt → Pt → Pt → Type 0
IsNearerTo p c d q e f = (r : Point) × IsOfSegment c d r
    × ((s : Point) → IsOfSegment e f s → AreNearer (whole p) r (whole q) s)

-- The end of the segments from a to b and from c to d that is nearest to the other segment: the first of equals in the
-- order a, b, c, d. It is nearer than each end before it, and as near as each end after it.
pub data IsNearestEnd (a b c d end : Pt) : Type 0 where
  first_start : end ≡ a → IsAsNearTo a c d b c d → IsAsNearTo a c d c a b → IsAsNearTo a c d d a b
      → IsNearestEnd a b c d end
  first_end : end ≡ b → IsNearerTo b c d a c d → IsAsNearTo b c d c a b → IsAsNearTo b c d d a b
      → IsNearestEnd a b c d end
  second_start : end ≡ c → IsNearerTo c a b a c d → IsNearerTo c a b b c d → IsAsNearTo c a b d a b
      → IsNearestEnd a b c d end
  second_end : end ≡ d → IsNearerTo d a b a c d → IsNearerTo d a b b c d → IsNearerTo d a b c a b
      → IsNearestEnd a b c d end
