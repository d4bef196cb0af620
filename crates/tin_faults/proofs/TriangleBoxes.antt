-- The triangles whose boxes share a point with that of a triangle are all that do not fit together with it.
use Rattle.std.proofs.Common.{◌≡◌, ◌⊎◌, inl, inr, ℕ, List, length}
use Rattle.std.specs.Prelude.{Contains}
use Rattle.plane_base.specs.declared.shapes.Rect.{Rect}
use Rattle.plane_base.specs.Boxes.{ShareAPointOrAreApart}
use Rattle.cell_grid.specs.Boxes.{AreBoxesAt}
use Rattle.tin_base.specs.declared.frames.Frame.{Frame}
use Rattle.tin_base.specs.Triangulation.{Triangulation}
use Rattle.tin_base.specs.Soundness.{DoFit}
use Rattle.tin_check.specs.TriangleBoxes.{IsBoxIn, AreBoxesIn}
use Rattle.tin_check.proofs.PairFits.Partners.{others_fit}
use Rattle.tin_faults.specs.InsideProgress.{DoListOverlaps}

pub near_lists : (tin : Triangulation) (frame : Frame) (boxes : List Rect) (first : ℕ) (box : Rect)
    (seconds listed : List ℕ) → ShareAPointOrAreApart → AreBoxesIn tin frame (length tin.triangles) boxes
    → IsBoxIn tin frame first box → AreBoxesAt boxes box seconds → listed ≡ seconds
    → DoListOverlaps tin frame first listed
near_lists tin frame boxes first box seconds listed law are is near same second fault =
    go (others_fit tin frame boxes first box seconds listed law are is near same second fault.0 fault.1)
  where
    go : Contains listed second ⊎ DoFit tin frame first second → Contains listed second
    go (inl h) = h
    go (inr fit) = absurd (fault.4 fit)
