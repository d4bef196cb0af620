-- Images in whole millimetres: the exact image of a point, rounded half up on each axis.
use Rattle.std.specs.Prelude.{◌≡◌, pos, ◌<ℤ◌}
use Rattle.frac128.specs.Rounding.{half_up_of}
use Rattle.plane_base.specs.Plane.{Point, whole}
use Rattle.plane_base.specs.declared.shapes.Pt.{Pt}
use Rattle.tin_base.specs.Triangulation.{Triangulation}
use Rattle.tin_base.specs.Images.{IsImage}

-- a place rounded half up on each axis
abbrev pub rounded_point : Point → Pt
rounded_point r = record { x = half_up_of r.x r.w; y = half_up_of r.y r.w }

-- the exact image of the place, rounded
abbrev pub IsRoundedImageAt : Triangulation → Point → Pt → Type 0
IsRoundedImageAt tin p image = (r : Point) × (pos 0 <ℤ r.w) × IsImage tin p r × (image ≡ rounded_point r)

-- the exact image of the point, rounded
abbrev pub IsRoundedImage : Triangulation → Pt → Pt → Type 0
IsRoundedImage tin p image = (r : Point) × (pos 0 <ℤ r.w) × IsImage tin (whole p) r × (image ≡ rounded_point r)
