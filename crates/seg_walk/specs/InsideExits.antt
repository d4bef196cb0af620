-- How a segment leaves a triangle.
use Rattle.std.specs.Prelude.{◌≡◌, ℕ, ◌<◌, pos, [], ◌∷◌, length}
use Rattle.plane_base.specs.Plane.{Point, turn_of, IsMix, whole}
use Rattle.plane_base.specs.declared.shapes.Pt.{Pt}
use Rattle.tin_base.specs.declared.frames.Frame.TheVariants.{Source}
use Rattle.tin_base.specs.Triangulation.{Triangulation, place, corner_at}
use Rattle.tin_base.specs.Segments.{Spot, spot_at, IsNotAfter, IsShared}
use Rattle.tin_index.specs.Sides.{corner_of, next_of}

-- where the corner of this number is
abbrev pub place_at : Triangulation → ℕ → Point
place_at tin corner = place Source (corner_at tin corner)

-- the line through a and b goes through the corner
abbrev pub IsOnLine : Triangulation → Pt → Pt → ℕ → Type 0
IsOnLine tin a b corner = turn_of (whole a) (whole b) (place_at tin corner) ≡ pos 0

-- the spot is the triangle's last one, and on side k, which is not on the line
pub record IsLeftAt (tin : Triangulation) (a b : Pt) (t k : ℕ) (x : Spot) : Type 0 where
  pub in_range : t < length tin.triangles
  pub side : k < 3
  pub has : IsShared tin a b t x
  pub last : (s : Spot) → IsShared tin a b t s → IsNotAfter s x
  pub on_side : IsMix (spot_at a b x) (place_at tin (corner_of tin t k) ∷ place_at tin (corner_of tin t (next_of k))
      ∷ [])
  pub crossed : IsOnLine tin a b (corner_of tin t k) → IsOnLine tin a b (corner_of tin t (next_of k)) → ⊥
