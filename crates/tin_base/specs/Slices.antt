-- The part of a segment in a triangle, by parameters on the segment.
use Rattle.std.specs.Prelude.{◌≡◌, ℕ, ℤ, ◌-ℤ◌, unsigned_abs}
use Rattle.frac128.specs.declared.frac.Frac.{Frac}
use Rattle.plane_base.specs.Plane.{corners_of, IsNear, IsNearTri}
use Rattle.plane_base.specs.Slices.{IsCommon, AreEnds, IsWholeWay}
use Rattle.plane_base.specs.declared.shapes.Pt.{Pt}
use Rattle.plane_base.specs.declared.shapes.Tri.{Tri}
use Rattle.plane_base.specs.declared.stretches.Stretch.{Stretch}
use Rattle.tin_base.specs.declared.frames.Frame.TheVariants.{Source}
use Rattle.tin_base.specs.Triangulation.{Triangulation, numbers_of, places}
use Rattle.tin_base.specs.Segments.{Spot}

-- the spot at the parameter n/d, from 0 to 1
abbrev pub spot_by : ℤ → ℤ → Spot
spot_by n d = record { of_a = unsigned_abs (d -ℤ n); of_b = unsigned_abs n }

abbrev pub spot_of : Frac → Spot
spot_of f = spot_by f.num f.den

-- the stretch is the part of the segment in triangle t, wherever the triangle is
abbrev pub IsSliceIn : Triangulation → Pt → Pt → ℕ → Stretch → Type 0
IsSliceIn tin a b t slice = (r : Tri) → corners_of r ≡ places tin Source (numbers_of tin t)
    → IsCommon a b r slice × AreEnds a b r slice × (a ≡ b → IsWholeWay slice)

-- both ends of the segment are near each corner of triangle t, wherever it is, and near each other
abbrev pub AreNearTriangle : Triangulation → Pt → Pt → ℕ → Type 0
AreNearTriangle tin a b t = (r : Tri) → corners_of r ≡ places tin Source (numbers_of tin t)
    → IsNearTri r a × IsNearTri r b × IsNear a b
