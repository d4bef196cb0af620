-- Each point of a sheet that has images is in a source triangle, and each of the images is that of some place.
use Rattle.std.proofs.Common.{◌⊎◌, inl, inr, ℕ, zero, suc, ◌+◌, ◌*◌, ◌-◌, ◌<◌, ◌≤◌, List, [], ◌∷◌, ◌++◌, Option}
use Rattle.std.proofs.Common.{Some, None, map, length, sym, ◌∙◌, subst, arith, All}
use Rattle.std.specs.List.{range_with_len}
use Rattle.std.proofs.lemmas.Bool.{cases_lt}
use Rattle.std.proofs.lemmas.List.{length-map, get_or_default}
use Rattle.std.proofs.lemmas.List.Elements.{All-append, All-cons}
use Rattle.plane_base.specs.Plane.{Point, whole}
use Rattle.plane_base.specs.declared.shapes.Pt.{Pt}
use Rattle.sheet_base.specs.declared.paths.PathRow.{PathRow}
use Rattle.sheet_base.specs.ImageFits.{Runs, DoFit}
use Rattle.sheet_base.specs.PointHeights.{Height}
use Rattle.sheet_base.specs.Segments.{no_point, point_at, points_in}
use Rattle.sheet_base.specs.Sheets.{Contents, AreTiled, IsSheet}
use Rattle.tin_base.specs.declared.frames.Frame.TheVariants.{Source}
use Rattle.tin_base.specs.Triangulation.{Triangulation, place, corner_at, numbers_of}
use Rattle.tin_base.specs.Images.{IsImage, IsInSome}
use Rattle.tin_base.specs.Segments.{Part, spot_at}
use Rattle.affine_image.specs.RoundedImages.{IsRoundedImage}
use Rattle.sheet_pieces.specs.SheetSegments.{SheetSegment, PathVertex, vertex_at, path_vertices, vertices_from}
use Rattle.sheet_pieces.specs.SheetSegments.{sheet_vertices}
use Rattle.sheet_pieces.specs.SheetImages.{AreEndsOfAllButLast, AreImagesOf, joined_runs}
use Rattle.sheet_pieces.proofs.PlaneRuns.{ArePlaneCrossings, IsPlaneRun, ArePlaneRuns, plane, plane_runs, plane_joined}
use Rattle.carry_map.specs.declared.limits.TheConstants.{MOST_PIECES}
use Rattle.carry_map.specs.Layers.{IsSomeImage, IsPlaced}

-- ---- points
-- a point that has an image is in a source triangle
has_image : (tin : Triangulation) (p r : Point) → IsImage tin p r → IsInSome tin Source p
has_image tin p r (t, within, like) = (
  t,
  within,
  (
    like.0,
    like.1 ∙ sym (length-map (numbers_of tin t) (λ number. place Source (corner_at tin number))),
    like.2,
    like.3,
  ),
)

has_rounded : (tin : Triangulation) (p image : Pt) → IsRoundedImage tin p image → IsInSome tin Source (whole p)
has_rounded tin p image (r, positive, is, rounded) = has_image tin (whole p) r is

abbrev AreVerticesInside : Triangulation → List PathVertex → Type 0
AreVerticesInside tin [] = Unit {0}
AreVerticesInside tin (v ∷ vs) = IsInSome tin Source (whole v.point) × AreVerticesInside tin vs

vertices_inside : (tin : Triangulation) (vs : List PathVertex) (runs : List (List Pt)) → ArePlaneRuns tin vs runs
    → AreVerticesInside tin vs
vertices_inside tin [] runs are = tt
vertices_inside tin (v ∷ vs) [] are = absurd are
vertices_inside tin (v ∷ vs) ([] ∷ runs) are = absurd are.0
vertices_inside tin (v ∷ vs) ((image ∷ images) ∷ runs) (is, are) =
    (has_rounded tin v.point image is.0, vertices_inside tin vs runs are)

split_vertices : (tin : Triangulation) (vs ws : List PathVertex) → AreVerticesInside tin (vs ++ ws)
    → AreVerticesInside tin vs × AreVerticesInside tin ws
split_vertices tin [] ws are = (tt, are)
split_vertices tin (v ∷ vs) ws (is, are) = let (these, those) = split_vertices tin vs ws are in ((is, these), those)

module _ (tin : Triangulation) (points : List Pt) (heights : List Height) where
  abbrev IsPointInside : ℕ → Type 0
  IsPointInside number = IsInSome tin Source (whole (point_at points number))

  -- the points of a path without its first k
  in_row : (path : ℕ) (row : PathRow) (k n i : ℕ)
      → AreVerticesInside tin (map (vertex_at points heights path row) (range_with_len k n)) → i < n
      → IsPointInside (row.first + (k + i))
  in_row path row k zero i are within = absurd (omega arith)
  in_row path row k (suc n) zero are within =
      subst (λ (m : ℕ). IsPointInside (row.first + m)) (omega arith) are.0
  in_row path row k (suc n) (suc i) are within =
      subst (λ (m : ℕ). IsPointInside (row.first + m)) (omega arith) (in_row path row (k + 1) n i are.1 (omega arith))

  -- those of paths
  in_rows : (path : ℕ) (rows : List PathRow) (first past i : ℕ) → AreTiled rows first past
      → AreVerticesInside tin (vertices_from points heights path rows) → first ≤ i → i < past → IsPointInside i
  in_rows path [] first past i tiled are from within = absurd (omega (arith, tiled))
  in_rows path (row ∷ rows) first past i (is, tiled) are from within =
      let (these, those) = split_vertices tin (path_vertices points heights path row)
      (vertices_from points heights (path + 1) rows) are in
      by these (λ behind. in_rows (path + 1) rows row.past past i tiled those behind within) (cases_lt i row.past)
    where
      by : AreVerticesInside tin (path_vertices points heights path row) → (row.past ≤ i → IsPointInside i)
          → (i < row.past) ⊎ (row.past ≤ i) → IsPointInside i
      by these onward (inl here) =
          let begins = is.begins in
          subst IsPointInside (omega (arith, begins, from))
          (in_row path row 0 (points_in row) (i - row.first) these (omega (arith, begins, from, here)))
      by these onward (inr behind) = onward behind

points_inside : (tin : Triangulation) (sheet : Contents) (images : Runs) → IsSheet sheet → AreImagesOf tin sheet images
    → All (λ p. IsInSome tin Source (whole p)) sheet.points
points_inside tin sheet images is are i d within =
    subst (λ (p : Pt). IsInSome tin Source (whole p)) (get_or_default sheet.points i no_point d within)
    (in_rows tin sheet.points sheet.heights 0 sheet.paths 0 (length sheet.points) i is.tiled
    (vertices_inside tin (sheet_vertices sheet) (plane are.runs)
    (plane_runs tin (sheet_vertices sheet) are.runs are.of_vertices)) (omega arith) within)

-- ---- images
no_images : (tin : Triangulation) → All (IsSomeImage tin) []
no_images tin k d h = absurd (omega arith)

ends_imaged : (tin : Triangulation) (a b : Pt) (parts : List Part) (images : List Pt)
    → AreEndsOfAllButLast tin a b parts images → All (IsSomeImage tin) images
ends_imaged tin a b [] images none = subst (λ (is : List Pt). All (IsSomeImage tin) is) (sym none) (no_images tin)
ends_imaged tin a b (part ∷ []) images none =
    subst (λ (is : List Pt). All (IsSomeImage tin) is) (sym none) (no_images tin)
ends_imaged tin a b (part ∷ next ∷ parts) [] are = absurd are
ends_imaged tin a b (part ∷ next ∷ parts) (image ∷ images) (is, are) =
    All-cons (IsSomeImage tin) image images (spot_at a b part.last, is) (ends_imaged tin a b (next ∷ parts) images are)

crossings_imaged : (tin : Triangulation) (segment : Option SheetSegment) (images : List Pt)
    → ArePlaneCrossings tin segment images → All (IsSomeImage tin) images
crossings_imaged tin None images none =
    subst (λ (is : List Pt). All (IsSomeImage tin) is) (sym none) (no_images tin)
crossings_imaged tin (Some segment) images (parts, cut, ends) =
    ends_imaged tin segment.a segment.b parts images ends

run_imaged : (tin : Triangulation) (vertex : PathVertex) (run : List Pt) → IsPlaneRun tin vertex run
    → All (IsSomeImage tin) run
run_imaged tin vertex [] is = absurd is
run_imaged tin vertex (image ∷ images) (own, crossings) =
    All-cons (IsSomeImage tin) image images (whole vertex.point, own)
    (crossings_imaged tin vertex.segment images crossings)

runs_imaged : (tin : Triangulation) (vs : List PathVertex) (runs : List (List Pt)) → ArePlaneRuns tin vs runs
    → All (IsSomeImage tin) (joined_runs runs)
runs_imaged tin [] [] are = no_images tin
runs_imaged tin [] (run ∷ runs) are = absurd are
runs_imaged tin (v ∷ vs) [] are = absurd are
runs_imaged tin (v ∷ vs) (run ∷ runs) (is, are) =
    All-append (IsSomeImage tin) run (joined_runs runs) (run_imaged tin v run is) (runs_imaged tin vs runs are)

images_imaged : (tin : Triangulation) (sheet : Contents) (images : Runs) → AreImagesOf tin sheet images
    → All (IsSomeImage tin) images.points
images_imaged tin sheet images are =
    subst (λ (is : List Pt). All (IsSomeImage tin) is) (plane_joined are.runs ∙ sym are.points)
    (runs_imaged tin (sheet_vertices sheet) (plane are.runs)
    (plane_runs tin (sheet_vertices sheet) are.runs are.of_vertices))

-- ---- both
pub sheet_placed : (tin : Triangulation) (sheet : Contents) (images : Runs) → IsSheet sheet
    → AreImagesOf tin sheet images → DoFit sheet images → length images.points ≤ 2 * MOST_PIECES
    → IsPlaced tin sheet images
sheet_placed tin sheet images is are fit few = record {
  fit = fit;
  in_source = points_inside tin sheet images is are;
  are_imaged = images_imaged tin sheet images are;
  few = few;
}
