-- Boxes of the images of pieces. Only private functions speak of them.
use Rattle.std.specs.Prelude.{pos, ◌+ℤ◌, ◌-ℤ◌, ◌<ℤ◌}
use Rattle.plane_base.specs.declared.shapes.Pt.{Pt}
use Rattle.plane_base.specs.declared.shapes.Rect.{Rect}
use Rattle.plane_base.specs.Plane.{Point}
use Rattle.plane_base.specs.Boxes.{IsIn, IsOrdered, HasBox}
use Rattle.tin_base.specs.declared.frames.Frame.TheVariants.{Target}
use Rattle.tin_base.specs.declared.pieces.Piece.{Piece}
use Rattle.tin_base.specs.Triangulation.{Triangulation}
use Rattle.tin_base.specs.Images.{IsImage}
use Rattle.tin_base.specs.Segments.{Part}
use Rattle.tin_base.specs.Relations.{IsBetween}
use Rattle.tin_base.specs.Pieces.{IsPieceOf, first_point, last_point}
use Rattle.topo_check.specs.InsideBoxes.{IsAmongCorners, rounded_box_of}

-- how far it is from p to q on each axis
abbrev pub displacement_of : Pt → Pt → Pt
displacement_of p q = record { x = q.x -ℤ p.x; y = q.y -ℤ p.y }

-- the box of all points of a box, each moved as far as each point of the other says
abbrev pub moved_by : Rect → Rect → Rect
moved_by displacements rect = record {
  x0 = rect.x0 +ℤ displacements.x0;
  y0 = rect.y0 +ℤ displacements.y0;
  x1 = rect.x1 +ℤ displacements.x1;
  y1 = rect.y1 +ℤ displacements.y1;
}

-- an image of the point is in the box
pub record HasImage (tin : Triangulation) (box : Rect) (r : Point) : Type 0 where
  pub image : Point
  pub positive : pos 0 <ℤ image.w
  pub is_image : IsImage tin r image
  pub is_in : IsIn box image

-- a box of the images of the exact piece's points and of the rounded segment, that reaches no further than the corners
pub record IsImageBox (tin : Triangulation) (p : Piece) (box : Rect) : Type 0 where
  pub ordered : IsOrdered box
  pub rounded : HasBox box (rounded_box_of p)
  pub images : (part : Part) → IsPieceOf tin p part → (r : Point) → pos 0 <ℤ r.w
      → IsBetween (first_point p part) (last_point p part) r → HasImage tin box r
  pub among : IsAmongCorners tin Target box
