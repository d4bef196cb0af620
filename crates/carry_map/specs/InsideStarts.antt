-- Where a segment starts. Only private functions speak of it.
use Rattle.std.specs.Prelude.{ℕ, ◌<◌, length}
use Rattle.plane_base.specs.Plane.{whole}
use Rattle.plane_base.specs.declared.shapes.Pt.{Pt}
use Rattle.tin_base.specs.declared.frames.Frame.TheVariants.{Source}
use Rattle.tin_base.specs.Triangulation.{Triangulation, IsInTriangle}
use Rattle.carry_map.specs.declared.segments.Start.{Start}
use Rattle.carry_map.specs.declared.segments.Start.TheVariants.{Found, Guessed}

-- the triangle is the least that contains the point
pub record IsLeastWith (tin : Triangulation) (p : Pt) (triangle : ℕ) : Type 0 where
  pub in_range : triangle < length tin.triangles
  pub has : IsInTriangle tin Source triangle (whole p)
  pub least : (other : ℕ) → other < triangle → IsInTriangle tin Source other (whole p) → ⊥

-- what is known of the start is so; a guess may be wrong
abbrev pub IsStart : Triangulation → Pt → Start → Type 0
IsStart tin p (Found triangle) = IsLeastWith tin p triangle
IsStart tin p (Guessed triangle) = Unit {0}
