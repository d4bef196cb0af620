-- The exact image of a segment, and the exact images of its pieces.
use Rattle.std.specs.Prelude.{◌↔◌, ℕ, ◌<◌, pos, ◌<ℤ◌, List, length}
use Rattle.plane_base.specs.Plane.{Point, whole}
use Rattle.plane_base.specs.declared.shapes.Pt.{Pt}
use Rattle.tin_base.specs.Triangulation.{Triangulation}
use Rattle.tin_base.specs.Soundness.{IsSound}
use Rattle.tin_base.specs.Images.{IsImage}
use Rattle.tin_base.specs.Relations.{IsBetween}
use Rattle.tin_base.specs.Segments.{Part, part_at, spot_at, IsInside, ArePiecesOf}

-- the point is the image of some point of the segment from a to b
abbrev pub IsImageOfSome : Triangulation → Pt → Pt → Point → Type 0
IsImageOfSome tin a b r = (p : Point) × (pos 0 <ℤ p.w) × IsBetween (whole a) (whole b) p × IsImage tin p r

-- the point is on the segment between the images of the first and the last point of a piece
pub record IsOnImageOf (tin : Triangulation) (a b : Pt) (part : Part) (r : Point) : Type 0 where
  pub first : Point
  pub last : Point
  pub is_first : IsImage tin (spot_at a b part.first) first
  pub is_last : IsImage tin (spot_at a b part.last) last
  pub first_positive : pos 0 <ℤ first.w
  pub last_positive : pos 0 <ℤ last.w
  pub between : IsBetween first last r

-- For each sound triangulation: the images of the points of a segment that is inside are the points of the images of
-- its pieces
abbrev pub PieceImagesAreTheImage : Type 0
PieceImagesAreTheImage =
    (tin : Triangulation) (a b : Pt) (parts : List Part) → IsSound tin → IsInside tin a b → ArePiecesOf tin a b parts
    → (r : Point) → pos 0 <ℤ r.w
    → IsImageOfSome tin a b r ↔ ((i : ℕ) × (i < length parts) × IsOnImageOf tin a b (part_at parts i) r)
