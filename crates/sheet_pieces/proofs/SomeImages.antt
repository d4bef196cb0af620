-- A sheet whose segments are all inside has images: read over the definitions alone.
use Rattle.std.proofs.Common.{◌≡◌, ◌⊎◌, inl, inr, ℕ, zero, suc, ◌+◌, ◌-◌, ◌<◌}
use Rattle.std.proofs.Common.{List, [], ◌∷◌, ◌++◌, sum, Option, Some, None, map, take, length, refl, sym, subst, arith}
use Rattle.std.proofs.Common.{◌∙◌}
use Rattle.std.specs.List.{range_with_len}
use Rattle.std.proofs.lemmas.Bool.{ltb-false}
use Rattle.std.proofs.lemmas.Int.{ints}
use Rattle.plane_base.specs.Plane.{whole, IsMix}
use Rattle.plane_base.specs.declared.shapes.Pt.{Pt}
use Rattle.plane_base.proofs.MixLaws.Mixes.{same_refl}
use Rattle.sheet_base.specs.declared.paths.PathRow.{PathRow}
use Rattle.sheet_base.specs.PointHeights.{Height, Position, points_with_heights, points_of, heights_of}
use Rattle.sheet_base.specs.Segments.{points_in, segments_in, begin_of}
use Rattle.sheet_base.specs.Sheets.{IsPathFrom, AreTiled}
use Rattle.tin_base.specs.declared.frames.Frame.TheVariants.{Source}
use Rattle.tin_base.specs.declared.pieces.Piece.{Piece}
use Rattle.tin_base.specs.declared.pieces.Place.{Place}
use Rattle.tin_base.specs.Triangulation.{Triangulation}
use Rattle.tin_base.specs.Images.{IsInSome}
use Rattle.tin_base.specs.Soundness.{IsSound}
use Rattle.tin_base.specs.Segments.{Spot, Part, part_at, spot_at, IsInside, ArePiecesOf}
use Rattle.tin_base.proofs.FrameImages.Agreement.{each_has_image}
use Rattle.tin_base.proofs.SegmentSpots.Spots.{spot-w, first_inside, last_inside}
use Rattle.tin_base.proofs.PieceChains.Outcomes as walks
use Rattle.affine_image.specs.RoundedImages.{rounded_point, IsRoundedImage, IsRoundedImageAt}
use Rattle.sheet_pieces.specs.SheetSegments.{SheetSegment, PathVertex, vertex_at, path_vertices}
use Rattle.sheet_pieces.specs.SheetSegments.{vertices_from}
use Rattle.sheet_pieces.specs.SheetSegments.{segments_begun, sheet_vertices}
use Rattle.sheet_pieces.specs.SheetPieces.{next_place, AreTold, first_place, AreInside}
use Rattle.sheet_pieces.specs.SheetImages.{AreCrossings, AreRuns, joined_runs, begins_from}
use Rattle.sheet_pieces.specs.SheetLaws.{ImagesExist}
use Rattle.sheet_pieces.specs.SpotHeights.{crossing_heights}
use Rattle.sheet_pieces.proofs.SpotHeights.{crossing_count}
use Rattle.sheet_pieces.proofs.PairedHeights.{crossings_paired, ends_count}
use Rattle.sheet_pieces.proofs.PartSequences.{same_or}
use Rattle.sheet_pieces.proofs.PathVertices.{AreFew, few, next_begins}
use Rattle.sheet_pieces.proofs.PathSegments.{begun_append, split_inside}
use Rattle.sheet_pieces.proofs.PieceParts.{end_images, inner_ends}

-- ---- images
two_some : (m n : ℕ) → 0 < m + n → 0 < sum (m ∷ n ∷ [])
two_some m n h = omega arith

spot_image : (tin : Triangulation) (a b : Pt) (s : Spot) → IsInside tin a b → 0 < s.of_a + s.of_b
    → (image : Pt) × IsRoundedImageAt tin (spot_at a b s) image
spot_image tin a b s inside some =
    let w = spot-w a b s some in
    let mix : IsMix (spot_at a b s) (whole a ∷ whole b ∷ []) =
    (s.of_a ∷ s.of_b ∷ [], refl, two_some s.of_a s.of_b some, same_refl (spot_at a b s)) in
    let (r, place, is) = each_has_image tin (spot_at a b s) w (inside (spot_at a b s) w mix) in
    (rounded_point r, (r, place, is, refl))

point_image : (tin : Triangulation) (p : Pt) → IsInSome tin Source (whole p) → (image : Pt) × IsRoundedImage tin p image
point_image tin p inside =
    let (r, place, is) = each_has_image tin (whole p) (omega (arith, ints)) inside in
    (rounded_point r, (r, place, is, refl))

-- ---- the pieces of one segment
abbrev pub AreSome : List Part → Type 0
AreSome [] = Unit {0}
AreSome (part ∷ parts) = (0 < part.first.of_a + part.first.of_b) × (0 < part.last.of_a + part.last.of_b) × AreSome parts

abbrev IsSome : Part → Type 0
IsSome part = (0 < part.first.of_a + part.first.of_b) × (0 < part.last.of_a + part.last.of_b)

some_each : (parts : List Part) → ((i : ℕ) → i < length parts → IsSome (part_at parts i)) → AreSome parts
some_each [] each = tt
some_each (part ∷ parts) each =
    let here = each 0 (omega arith) in
    (here.0, here.1, some_each parts (λ i below. each (suc i) (omega arith)))

pub some_parts : (tin : Triangulation) (a b : Pt) (parts : List Part) → ArePiecesOf tin a b parts → AreSome parts
some_parts tin a b parts cut = grind (arith, same_or, some_each)

pub told_parts : (tin : Triangulation) (a b : Pt) → IsInside tin a b → (from : Place) (parts : List Part)
    → AreSome parts
    → (pieces : List Piece) × AreTold tin a b from parts pieces
told_parts tin a b inside from [] some = ([], tt)
told_parts tin a b inside from (part ∷ parts) some =
    let (first, first_is) = spot_image tin a b part.first inside some.0 in
    let (last, last_is) = spot_image tin a b part.last inside some.1 in
    let (pieces, told) = told_parts tin a b inside (next_place from) parts some.2 in (
      (record { a = a; b = b; tri = part.triangle; ia = first; ib = last; from = from }) ∷ pieces,
      (
        record {
          begins = refl;
          ends = refl;
          triangle = refl;
          first_image = first_is;
          last_image = last_is;
          place =
              refl;
        },
        told,
      ),
    )

-- ---- the runs of vertices
abbrev IsSegmentInside : Triangulation → Option SheetSegment → Type 0
IsSegmentInside tin None = Unit {0}
IsSegmentInside tin (Some segment) = IsInside tin segment.a segment.b

abbrev AreReady : Triangulation → List PathVertex → Type 0
AreReady tin [] = Unit {0}
AreReady tin (vertex ∷ vertices) = IsInSome tin Source (whole vertex.point) × IsSegmentInside tin vertex.segment
    × AreReady tin vertices

crossings : (tin : Triangulation) → IsSound tin → (segment : Option SheetSegment) → IsSegmentInside tin segment
    → (images : List Position) × AreCrossings tin segment images
crossings tin sound None inside = ([], refl)
crossings tin sound (Some segment) inside = by (walks.outcome tin sound segment.a segment.b)
  where
    by : ((parts : List Part) × ArePiecesOf tin segment.a segment.b parts × IsInside tin segment.a segment.b)
        ⊎ (IsInside tin segment.a segment.b → ⊥)
        → (images : List Position) × AreCrossings tin (Some segment) images
    by (inl (parts, cut, also)) =
        let (own, told) = told_parts tin segment.a segment.b inside (first_place 0 segment) parts
        (some_parts tin segment.a segment.b parts cut) in
        let ends = inner_ends tin segment.a segment.b (first_place 0 segment) parts own told in
        let images = end_images (take (length own - 1) own) in (
          points_with_heights images (crossing_heights segment.a segment.b segment.heights parts),
          crossings_paired tin segment parts images cut ends
              (ends_count tin segment.a segment.b parts images ends
              ∙ sym (crossing_count segment.a segment.b segment.heights parts)),
        )
    by (inr outside) = absurd (outside inside)

runs_of : (tin : Triangulation) → IsSound tin → (vertices : List PathVertex) → AreReady tin vertices
    → (runs : List (List Position)) × AreRuns tin vertices runs
runs_of tin sound [] ready = ([], tt)
runs_of tin sound (vertex ∷ vertices) ready =
    let (image, is) = point_image tin vertex.point ready.0 in
    let (behind, are) = crossings tin sound vertex.segment ready.1 in
    let (runs, rest) = runs_of tin sound vertices ready.2 in
    ((record { point = image; height = vertex.height } ∷ behind) ∷ runs, ((is, refl, are), rest))

-- ---- the vertices of a sheet whose segments are inside
ready_more : (tin : Triangulation) (vs ws : List PathVertex) → AreReady tin vs → AreReady tin ws
    → AreReady tin (vs ++ ws)
ready_more tin [] ws h k = k
ready_more tin (v ∷ vs) ws h k = (h.0, h.1, ready_more tin vs ws h.2 k)

module _ (tin : Triangulation) (points : List Pt) (heights : List Height) (path : ℕ) (row : PathRow)
    (are_few : AreFew (segments_in row) (points_in row)) where
  -- the place of the vertex of this number, where it is none of the first
  abbrev IsPlaced : ℕ → Type 0
  IsPlaced k = (k ≡ 0) ⊎ IsInSome tin Source (whole (begin_of points row k))

  ready_from : (k n : ℕ) → k + n ≡ points_in row → IsPlaced k
      → AreInside tin (segments_begun (map (vertex_at points heights path row) (range_with_len k n)))
      → AreReady tin (map (vertex_at points heights path row) (range_with_len k n))
  ready_from k zero size placed inside = tt
  ready_from k (suc n) size placed inside =
      grind (arith, next_begins, last_inside, first_inside, ltb-false, (ready_from (k + 1) n))

ready_paths : (tin : Triangulation) (points : List Pt) (heights : List Height) (n : ℕ) (rows : List PathRow)
    (first past : ℕ)
    → AreTiled rows first past → AreInside tin (segments_begun (vertices_from points heights n rows))
    → AreReady tin (vertices_from points heights n rows)
ready_paths tin points heights n [] first past tiled inside = tt
ready_paths tin points heights n (row ∷ rows) first past tiled inside =
    let path = tiled.0 in
    let from : IsPathFrom row.first row = record { begins = refl; some = path.some; dot = path.dot } in
    let (own, others) = split_inside tin (segments_begun (path_vertices points heights n row))
    (segments_begun (vertices_from points heights (n + 1) rows))
    (subst (AreInside tin) (begun_append (path_vertices points heights n row)
    (vertices_from points heights (n + 1) rows)) inside) in
    ready_more tin (path_vertices points heights n row) (vertices_from points heights (n + 1) rows)
    (ready_from tin points heights n row (few row from) 0 (points_in row) (omega arith) (inl refl) own)
    (ready_paths tin points heights (n + 1) rows row.past past tiled.1 others)

-- ---- a sheet
pub images_exist : ImagesExist
images_exist tin sound sheet tiled inside =
    let (runs, are) = runs_of tin sound (sheet_vertices sheet)
    (ready_paths tin sheet.points sheet.heights 0 sheet.paths 0 (length sheet.points) tiled inside) in (
      record { points = points_of (joined_runs runs); heights = heights_of (joined_runs runs); run = begins_from 0 runs },
      record { runs = runs; of_vertices = are; points = refl; heights = refl; run = refl },
    )
