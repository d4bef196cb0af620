-- What the points of a segment are.
use Rattle.std.specs.Prelude.{◌≡◌, ◌↔◌, true, [], ◌∷◌}
use Rattle.plane_base.specs.declared.shapes.Pt.{Pt}
use Rattle.plane_base.specs.Plane.{whole, IsMix}
use Rattle.ring_side.specs.Sides.{is_on}

-- a point is on a segment exactly where it is a mix of its ends
abbrev pub PointsOfSegmentsAreMixes : Type 0
PointsOfSegmentsAreMixes = (a b p : Pt)
    → (is_on p (record { from = a; to = b }) ≡ true) ↔ IsMix (whole p) (whole a ∷ whole b ∷ [])
