-- The relation of two segments, by their common points. A segment is given by its ends, and its points are their mixes.
use Rattle.std.specs.Prelude.{◌⊎◌, pos, ◌<ℤ◌, [], ◌∷◌}
use Rattle.plane_base.specs.Plane.{Point, Same, IsMix}
use Rattle.tin_base.specs.declared.relations.Rel.{Rel}
use Rattle.tin_base.specs.declared.relations.Rel.TheVariants.{Apart, Touching, Crossing, Overlapping}

-- r is a point of the segment from p to q
abbrev pub IsBetween : Point → Point → Point → Type 0
IsBetween p q r = IsMix r (p ∷ q ∷ [])

-- r is a point of the segment from p to q and of the segment from e to f
pub record IsCommonPoint (p q e f r : Point) : Type 0 where
  pub positive : pos 0 <ℤ r.w
  pub first : IsBetween p q r
  pub second : IsBetween e f r

-- r is the one point that is common to both
abbrev pub IsOnlyCommonPoint : Point → Point → Point → Point → Point → Type 0
IsOnlyCommonPoint p q e f r = IsCommonPoint p q e f r × ((s : Point) → IsCommonPoint p q e f s → Same s r)

-- r is an end of one of the two segments
abbrev pub IsAnEnd : Point → Point → Point → Point → Point → Type 0
IsAnEnd p q e f r = Same r p ⊎ (Same r q ⊎ (Same r e ⊎ Same r f))

-- the segments from p to q and from e to f have no common point, one that is an end, one that is no end, or two
-- different ones
abbrev pub HaveRelation : Rel → Point → Point → Point → Point → Type 0
HaveRelation Apart p q e f = (r : Point) → IsCommonPoint p q e f r → ⊥
HaveRelation Touching p q e f = (r : Point) × IsOnlyCommonPoint p q e f r × IsAnEnd p q e f r
HaveRelation Crossing p q e f = (r : Point) × IsOnlyCommonPoint p q e f r × (IsAnEnd p q e f r → ⊥)
HaveRelation Overlapping p q e f = (r : Point) × (s : Point) × IsCommonPoint p q e f r × IsCommonPoint p q e f s
    × (Same r s → ⊥)
