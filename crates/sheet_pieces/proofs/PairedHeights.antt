-- The images of a segment's crossings beside their heights.
use Rattle.std.proofs.Common.{◌≡◌, ◌-◌, List, [], ◌∷◌, Some, length, ap, arith}
use Rattle.plane_base.specs.declared.shapes.Pt.{Pt}
use Rattle.sheet_base.specs.PointHeights.{points_with_heights}
use Rattle.sheet_base.proofs.PositionLists.{paired_points, paired_heights}
use Rattle.tin_base.specs.Triangulation.{Triangulation}
use Rattle.tin_base.specs.Segments.{Part, ArePiecesOf}
use Rattle.sheet_pieces.specs.SpotHeights.{crossing_heights}
use Rattle.sheet_pieces.specs.SheetSegments.{SheetSegment}
use Rattle.sheet_pieces.specs.SheetImages.{AreEndsOfAllButLast, AreCrossings}

-- the crossings of a segment with their heights
pub crossings_paired : (tin : Triangulation) (segment : SheetSegment) (parts : List Part) (images : List Pt)
    → ArePiecesOf tin segment.a segment.b parts → AreEndsOfAllButLast tin segment.a segment.b parts images
    → length images ≡ length (crossing_heights segment.a segment.b segment.heights parts)
    → AreCrossings tin (Some segment)
    (points_with_heights images (crossing_heights segment.a segment.b segment.heights parts))
crossings_paired tin segment parts images cut ends count = grind (arith, paired_points, paired_heights)

pub ends_count : (tin : Triangulation) (a b : Pt) (parts : List Part) (images : List Pt)
    → AreEndsOfAllButLast tin a b parts images → length images ≡ length parts - 1
ends_count tin a b [] images none = ap (λ (ps : List Pt). length ps) none
ends_count tin a b (part ∷ []) images none = ap (λ (ps : List Pt). length ps) none
ends_count tin a b (part ∷ next ∷ parts) [] is = absurd is
ends_count tin a b (part ∷ next ∷ parts) (image ∷ images) is =
    let e = ends_count tin a b (next ∷ parts) images is.1 in omega (arith, e)
