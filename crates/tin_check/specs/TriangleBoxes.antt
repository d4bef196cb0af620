-- Boxes round triangles.
use Rattle.std.specs.Prelude.{◌≡◌, ℕ, ◌<◌, List, length}
use Rattle.plane_base.specs.declared.shapes.Rect.{Rect}
use Rattle.plane_base.specs.declared.shapes.Tri.{Tri}
use Rattle.plane_base.specs.Plane.{corners_of}
use Rattle.plane_base.specs.Boxes.{box_of_triangle}
use Rattle.cell_grid.specs.Boxes.{box_at}
use Rattle.tin_base.specs.declared.frames.Frame.{Frame}
use Rattle.tin_base.specs.Triangulation.{Triangulation, numbers_of, places}

-- it is the box of triangle t in the frame
pub record IsBoxIn (tin : Triangulation) (frame : Frame) (t : ℕ) (box : Rect) : Type 0 where
  pub tri : Tri
  pub corners : corners_of tri ≡ places tin frame (numbers_of tin t)
  pub is : box ≡ box_of_triangle tri

-- the boxes are those of the first n triangles, in order
pub record AreBoxesIn (tin : Triangulation) (frame : Frame) (n : ℕ) (boxes : List Rect) : Type 0 where
  pub count : length boxes ≡ n
  pub each : (t : ℕ) → t < n → IsBoxIn tin frame t (box_at boxes t)
