-- The images of a sheet: of each vertex, and after it those of the crossings of the segment that begins there, each
-- with its height or none.
use Rattle.std.specs.Prelude.{◌≡◌, ℕ, ◌+◌, Option, Some, None, List, [], ◌∷◌, length, flat_map}
use Rattle.plane_base.specs.declared.shapes.Pt.{Pt}
use Rattle.sheet_base.specs.Sheets.{Contents}
use Rattle.sheet_base.specs.ImageFits.{Runs}
use Rattle.sheet_base.specs.PointHeights.{Position, points_of, heights_of}
use Rattle.tin_base.specs.Triangulation.{Triangulation}
use Rattle.tin_base.specs.Segments.{Part, spot_at, ArePiecesOf}
use Rattle.affine_image.specs.RoundedImages.{IsRoundedImage, IsRoundedImageAt}
use Rattle.sheet_pieces.specs.SpotHeights.{crossing_heights}
use Rattle.sheet_pieces.specs.SheetSegments.{SheetSegment, PathVertex, sheet_vertices}

-- the rounded images of the last points of all parts but the last
abbrev pub AreEndsOfAllButLast : Triangulation → Pt → Pt → List Part → List Pt → Type 0
AreEndsOfAllButLast tin a b [] images = images ≡ []
AreEndsOfAllButLast tin a b (part ∷ []) images = images ≡ []
AreEndsOfAllButLast tin a b (part ∷ next ∷ parts) [] = ⊥
AreEndsOfAllButLast tin a b (part ∷ next ∷ parts) (image ∷ images) =
    IsRoundedImageAt tin (spot_at a b part.last) image × AreEndsOfAllButLast tin a b (next ∷ parts) images

-- the images of the crossings of a segment: of the places where its pieces meet, with their heights
abbrev pub AreCrossings : Triangulation → Option SheetSegment → List Position → Type 0
AreCrossings tin None images = images ≡ []
AreCrossings tin (Some segment) images = (parts : List Part) × ArePiecesOf tin segment.a segment.b parts
    × AreEndsOfAllButLast tin segment.a segment.b parts (points_of images)
    × (heights_of images ≡ crossing_heights segment.a segment.b segment.heights parts)

-- the run of a vertex: its rounded image with its own height, and the images of the crossings after it
abbrev pub IsRun : Triangulation → PathVertex → List Position → Type 0
IsRun tin vertex [] = ⊥
IsRun tin vertex (image ∷ images) = IsRoundedImage tin vertex.point image.point × (image.height ≡ vertex.height)
    × AreCrossings tin vertex.segment images

-- one run for each vertex, in order
abbrev pub AreRuns : Triangulation → List PathVertex → List (List Position) → Type 0
AreRuns tin [] [] = Unit {0}
AreRuns tin [] (run ∷ runs) = ⊥
AreRuns tin (vertex ∷ vertices) [] = ⊥
AreRuns tin (vertex ∷ vertices) (run ∷ runs) = IsRun tin vertex run × AreRuns tin vertices runs

-- lists one after the other, in one
abbrev pub joined_runs : {X : Type 0} → List (List X) → List X
joined_runs runs = flat_map (λ run. run) runs

-- and the place where each of them begins, the first at this place
abbrev pub begins_from : {X : Type 0} → ℕ → List (List X) → List ℕ
begins_from place [] = []
begins_from place (run ∷ runs) = place ∷ begins_from (place + length run) runs

-- the images of a sheet: the runs of its vertices one after the other, and where each begins
pub record AreImagesOf (tin : Triangulation) (sheet : Contents) (images : Runs) : Type 0 where
  pub runs : List (List Position)
  pub of_vertices : AreRuns tin (sheet_vertices sheet) runs
  pub points : images.points ≡ points_of (joined_runs runs)
  pub heights : images.heights ≡ heights_of (joined_runs runs)
  pub run : images.run ≡ begins_from 0 runs
