-- The runs of a sheet's vertices without heights: their points alone.
use Rattle.std.proofs.Common.{◌≡◌, ℕ, ◌+◌, List, [], ◌∷◌, ◌++◌, Option, Some, None, map, length, ap, refl, sym, ◌∙◌}
use Rattle.std.proofs.Common.{append_assoc, arith}
use Rattle.std.proofs.lemmas.List.{length-map, map-append}
use Rattle.std.proofs.lemmas.Grind.{flat_map-append}
use Rattle.plane_base.specs.declared.shapes.Pt.{Pt}
use Rattle.sheet_base.specs.PointHeights.{Position, points_of}
use Rattle.tin_base.specs.Triangulation.{Triangulation}
use Rattle.tin_base.specs.Segments.{Part, ArePiecesOf}
use Rattle.affine_image.specs.RoundedImages.{IsRoundedImage}
use Rattle.sheet_pieces.specs.SheetSegments.{SheetSegment, PathVertex}
use Rattle.sheet_pieces.specs.SheetImages.{AreEndsOfAllButLast, AreCrossings, IsRun, AreRuns, joined_runs, begins_from}

-- the points of the images of a segment's crossings
abbrev pub ArePlaneCrossings : Triangulation → Option SheetSegment → List Pt → Type 0
ArePlaneCrossings tin None images = images ≡ []
ArePlaneCrossings tin (Some segment) images = (parts : List Part) × ArePiecesOf tin segment.a segment.b parts
    × AreEndsOfAllButLast tin segment.a segment.b parts images

-- of a vertex's run
abbrev pub IsPlaneRun : Triangulation → PathVertex → List Pt → Type 0
IsPlaneRun tin vertex [] = ⊥
IsPlaneRun tin vertex (image ∷ images) = IsRoundedImage tin vertex.point image
    × ArePlaneCrossings tin vertex.segment images

-- of the runs of some vertices
abbrev pub ArePlaneRuns : Triangulation → List PathVertex → List (List Pt) → Type 0
ArePlaneRuns tin [] [] = Unit {0}
ArePlaneRuns tin [] (run ∷ runs) = ⊥
ArePlaneRuns tin (vertex ∷ vertices) [] = ⊥
ArePlaneRuns tin (vertex ∷ vertices) (run ∷ runs) = IsPlaneRun tin vertex run × ArePlaneRuns tin vertices runs

-- ---- from runs with heights
abbrev pub plane : List (List Position) → List (List Pt)
plane runs = map (λ (run : List Position). points_of run) runs

plane_crossings : (tin : Triangulation) (segment : Option SheetSegment) (images : List Position)
    → AreCrossings tin segment images → ArePlaneCrossings tin segment (points_of images)
plane_crossings tin None images none = ap (λ (xs : List Position). points_of xs) none
plane_crossings tin (Some segment) images (parts, cut, ends, high) = (parts, cut, ends)

plane_run : (tin : Triangulation) (vertex : PathVertex) (run : List Position) → IsRun tin vertex run
    → IsPlaneRun tin vertex (points_of run)
plane_run tin vertex [] is = absurd is
plane_run tin vertex (image ∷ images) (own, high, crossings) =
    (own, plane_crossings tin vertex.segment images crossings)

pub plane_runs : (tin : Triangulation) (vertices : List PathVertex) (runs : List (List Position))
    → AreRuns tin vertices runs → ArePlaneRuns tin vertices (plane runs)
plane_runs tin [] [] are = tt
plane_runs tin (vertex ∷ vertices) (run ∷ runs) (is, are) =
    (plane_run tin vertex run is, plane_runs tin vertices runs are)
plane_runs tin vertices runs are = absurd are

-- items of each image, one run after the other
pub joined_items : {X Y : Type 0} (f : X → Y) (runs : List (List X))
    → joined_runs (map (λ (run : List X). map f run) runs) ≡ map f (joined_runs runs)
joined_items f [] = refl
joined_items f (run ∷ runs) = ap (λ ys. map f run ++ ys) (joined_items f runs) ∙ sym (map-append f run (joined_runs runs))

pub plane_joined : (runs : List (List Position)) → joined_runs (plane runs) ≡ points_of (joined_runs runs)
plane_joined runs = joined_items (λ (position : Position). position.point) runs

begins_items : {X Y : Type 0} (f : X → Y) (n : ℕ) (runs : List (List X))
    → begins_from n (map (λ (run : List X). map f run) runs) ≡ begins_from n runs
begins_items f n [] = refl
begins_items f n (run ∷ runs) = grind (arith, length-map, (begins_items f (n + length run) runs))

pub plane_begins : (n : ℕ) (runs : List (List Position)) → begins_from n (plane runs) ≡ begins_from n runs
plane_begins n runs = begins_items (λ (position : Position). position.point) n runs

-- items of each image of some runs after those of others
pub items_on : {X : Type 0} (item : Position → X) (x y z : List X) (runs others : List (List Position))
    → y ≡ x ++ map item (joined_runs runs) → z ≡ y ++ map item (joined_runs others) → z ≡ x ++ map item (joined_runs (runs ++ others))
items_on item x y z runs others e f = grind (arith, append_assoc, map-append, flat_map-append)
