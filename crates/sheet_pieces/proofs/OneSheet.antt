-- The images of a sheet are one, with their heights.
use Rattle.std.proofs.Common.{◌≡◌, List, [], ◌∷◌, Option, Some, None, ap, ap₂, refl, sym, ◌∙◌, arith}
use Rattle.plane_base.specs.Plane.{whole}
use Rattle.plane_base.specs.declared.shapes.Pt.{Pt}
use Rattle.sheet_base.specs.PointHeights.{Height, Position, points_of, heights_of}
use Rattle.sheet_base.specs.ImageFits.{Runs}
use Rattle.sheet_base.specs.Sheets.{Contents}
use Rattle.tin_base.specs.Triangulation.{Triangulation}
use Rattle.tin_base.specs.Soundness.{IsSound}
use Rattle.tin_base.proofs.SegmentSpots.Spots.{one}
use Rattle.sheet_pieces.specs.SheetSegments.{SheetSegment, PathVertex}
use Rattle.sheet_pieces.specs.SheetImages.{AreCrossings, IsRun, AreRuns, joined_runs, begins_from, AreImagesOf}
use Rattle.affine_image.proofs.RoundedImages.{rounded_images_agree}
use Rattle.sheet_pieces.specs.SheetSegments.{SheetSegment, PathVertex, sheet_vertices}
use Rattle.sheet_pieces.specs.SheetImages.{AreCrossings, IsRun, AreRuns, joined_runs, begins_from, AreImagesOf}
use Rattle.sheet_pieces.proofs.OneCut.{cut_alike, ends_one}
use Rattle.sheet_pieces.proofs.OneHeight.{crossings_one}

-- ---- positions
abbrev position_at : Pt → Height → Position
position_at point height = record { point = point; height = height }

abbrev rest_of : List Pt → List Pt
rest_of [] = []
rest_of (p ∷ ps) = ps

abbrev lower_of : List Height → List Height
lower_of [] = []
lower_of (h ∷ hs) = hs

positions_one : (xs ys : List Position) → points_of xs ≡ points_of ys → heights_of xs ≡ heights_of ys → xs ≡ ys
positions_one [] [] e f = refl
positions_one (x ∷ xs) (y ∷ ys) e f = grind (arith, (positions_one xs ys (ap rest_of e) (ap lower_of f)))
positions_one xs ys e f = cc

-- ---- runs
crossings_same : (tin : Triangulation) (segment : Option SheetSegment) (images others : List Position) → IsSound tin
    → AreCrossings tin segment images → AreCrossings tin segment others → images ≡ others
crossings_same tin None images others sound e f = e ∙ sym f
crossings_same tin (Some segment) images others sound (parts, cut, points, high) (parts', cut', points', high') =
    let alike = cut_alike tin segment.a segment.b parts parts' cut cut' in
    positions_one images others
    (ends_one tin segment.a segment.b parts parts' (points_of images) (points_of others) sound alike points points')
    (high ∙ crossings_one segment.a segment.b segment.heights parts parts' alike ∙ sym high')

run_same : (tin : Triangulation) (vertex : PathVertex) (run other : List Position) → IsSound tin
    → IsRun tin vertex run → IsRun tin vertex other → run ≡ other
run_same tin vertex [] other sound is also = absurd is
run_same tin vertex (image ∷ images) [] sound is also = absurd also
run_same tin vertex (image ∷ images) (first ∷ others) sound (own, high, behind) (own', high', behind') =
    ap₂ (λ (p : Position) (ps : List Position). p ∷ ps)
    (ap₂ position_at (rounded_images_agree tin (whole vertex.point) image.point first.point sound one own own')
    (high ∙ sym high'))
    (crossings_same tin vertex.segment images others sound behind behind')

runs_same : (tin : Triangulation) (vertices : List PathVertex) (runs others : List (List Position)) → IsSound tin
    → AreRuns tin vertices runs → AreRuns tin vertices others → runs ≡ others
runs_same tin [] [] [] sound are also = refl
runs_same tin [] (run ∷ runs) others sound are also = absurd are
runs_same tin (vertex ∷ vertices) [] others sound are also = absurd are
runs_same tin (vertex ∷ vertices) (run ∷ runs) (other ∷ others) sound are also =
    grind (arith, run_same, (runs_same tin vertices runs others sound are.1 also.1))
runs_same tin vertices runs others sound are also = absurd also

abbrev of_runs : List (List Position) → Runs
of_runs runs = record {
  points = points_of (joined_runs runs);
  heights = heights_of (joined_runs runs);
  run = begins_from 0 runs;
}

is_of_runs : (tin : Triangulation) (sheet : Contents) (images : Runs) → (are : AreImagesOf tin sheet images)
    → images ≡ of_runs are.runs
is_of_runs tin sheet images are = grind arith

pub images_same : (tin : Triangulation) (sheet : Contents) (images others : Runs) → IsSound tin
    → AreImagesOf tin sheet images → AreImagesOf tin sheet others → images ≡ others
images_same tin sheet images others sound are also = grind (arith, is_of_runs, runs_same)
