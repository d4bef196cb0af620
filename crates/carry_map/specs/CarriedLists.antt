-- What was gathered of some vertices or of one segment: images, their heights, places of runs and pieces, each after
-- those that were there before.
use Rattle.std.specs.Prelude.{◌≡◌, ℕ, List, ◌++◌, map, take, length, ◌-◌}
use Rattle.plane_base.specs.declared.shapes.Pt.{Pt}
use Rattle.sheet_base.specs.PointHeights.{Height, Position, points_of, heights_of}
use Rattle.sheet_base.specs.Sheets.{Contents}
use Rattle.sheet_base.specs.ImageFits.{Runs}
use Rattle.sheet_base.specs.ReadBack.{Ends, ends_of, row_of_images}
use Rattle.tin_base.specs.declared.pieces.Piece.{Piece}
use Rattle.tin_base.specs.declared.pieces.Place.{Place}
use Rattle.tin_base.specs.Triangulation.{Triangulation}
use Rattle.tin_base.specs.Segments.{Part, ArePiecesOf}
use Rattle.sheet_pieces.specs.SpotHeights.{crossing_heights}
use Rattle.sheet_pieces.specs.SheetSegments.{PathVertex, segments_begun}
use Rattle.sheet_pieces.specs.SheetPieces.{AreTold, ArePiecesOfAll, AreInside}
use Rattle.sheet_pieces.specs.SheetImages.{AreRuns, joined_runs, begins_from}
use Rattle.sheet_pieces.specs.SheetLaws.{image_ends}

-- the second list is the first one with more after it
pub record Grows {X : Type 0} (before after : List X) : Type 0 where
  pub more : List X
  pub are : after ≡ before ++ more

-- the images of a segment's pieces' last points, but of the last
abbrev pub inner_images : List Piece → List Pt
inner_images pieces = map (λ piece. piece.ib) (take (length pieces - 1) pieces)

-- the sheet's paths with the images in place of their points have the segments between the images of these pieces' ends
abbrev pub AreSegmentsOf : Contents → Runs → List Piece → Type 0
AreSegmentsOf sheet images pieces = ends_of images.points (map (row_of_images images) sheet.paths) ≡ image_ends pieces

-- the pieces of the segment from a to b come after those before
pub record AreSegmentTold (tin : Triangulation) (a b : Pt) (from : Place) (before after : List Piece) : Type 0 where
  pub own : List Piece
  pub are : after ≡ before ++ own
  pub parts : List Part
  pub cut : ArePiecesOf tin a b parts
  pub told : AreTold tin a b from parts own

-- and the heights of its crossings, by those of its ends, after the heights before
pub record IsSegmentTold (tin : Triangulation) (a b : Pt) (ends : Ends Height) (from : Place)
    (heights heights' : List Height) (pieces pieces' : List Piece) : Type 0 where
  pub told : AreSegmentTold tin a b from pieces pieces'
  pub rises : heights' ≡ heights ++ crossing_heights a b ends told.parts

-- and the images of its crossings after the images before
pub record IsSegmentCarried (tin : Triangulation) (a b : Pt) (ends : Ends Height) (from : Place)
    (points points' : List Pt) (heights heights' : List Height) (pieces pieces' : List Piece) : Type 0 where
  pub told : AreSegmentTold tin a b from pieces pieces'
  pub crossings : points' ≡ points ++ inner_images told.own
  pub rises : heights' ≡ heights ++ crossing_heights a b ends told.parts

-- the runs and the pieces of some vertices come after those before
pub record AreCarried (tin : Triangulation) (layer : ℕ) (vertices : List PathVertex) (points points' : List Pt)
    (heights heights' : List Height) (run run' : List ℕ) (pieces pieces' : List Piece) : Type 0 where
  pub runs : List (List Position)
  pub of_vertices : AreRuns tin vertices runs
  pub points_are : points' ≡ points ++ points_of (joined_runs runs)
  pub heights_are : heights' ≡ heights ++ heights_of (joined_runs runs)
  pub run_are : run' ≡ run ++ begins_from (length points) runs
  pub own : List Piece
  pub pieces_are : pieces' ≡ pieces ++ own
  pub of_segments : ArePiecesOfAll tin layer (segments_begun vertices) own
  pub inside : AreInside tin (segments_begun vertices)
