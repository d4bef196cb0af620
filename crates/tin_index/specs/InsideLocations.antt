-- How the least triangle is found. Only private functions speak of it.
use Rattle.std.specs.Prelude.{◌≡◌, ◌⊎◌, ℕ, ◌<◌, pos, ◌<ℤ◌, length}
use Rattle.plane_base.specs.Plane.{whole, turn_of}
use Rattle.plane_base.specs.declared.shapes.Pt.{Pt}
use Rattle.plane_base.specs.declared.shapes.Tri.{Tri}
use Rattle.tin_base.specs.declared.frames.Frame.TheVariants.{Source}
use Rattle.tin_base.specs.Triangulation.{Triangulation, IsInTriangle}

-- the number that was found before, or a triangle that has the point
abbrev pub IsOneOf : Triangulation → Pt → ℕ → ℕ → Type 0
IsOneOf tin p found number = (number ≡ found)
    ⊎ ((number < length tin.triangles) × IsInTriangle tin Source number (whole p))

-- the point is to the left of each side
abbrev pub IsInsideOf : Tri → Pt → Type 0
IsInsideOf t p = (pos 0 <ℤ turn_of (whole t.a) (whole t.b) (whole p))
    × (pos 0 <ℤ turn_of (whole t.b) (whole t.c) (whole p)) × (pos 0 <ℤ turn_of (whole t.c) (whole t.a) (whole p))

-- the triangle has the point, and no other has it
pub record IsOnlyIn (tin : Triangulation) (t : ℕ) (p : Pt) : Type 0 where
  pub in_range : t < length tin.triangles
  pub has : IsInTriangle tin Source t (whole p)
  pub only : (u : ℕ) → u < length tin.triangles → IsInTriangle tin Source u (whole p) → u ≡ t
