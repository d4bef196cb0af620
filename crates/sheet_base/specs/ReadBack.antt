-- A written layer reads back: its segments are those between the images of the sheet's points and crossings.
use Rattle.std.specs.Prelude.{◌≡◌, ℕ, ◌+◌, List, [], ◌∷◌, map, flat_map}
use Rattle.std.specs.List.{range_with_len}
use Rattle.plane_base.specs.declared.shapes.Pt.{Pt}
use Rattle.sheet_base.specs.declared.paths.PathRow.{PathRow}
use Rattle.sheet_base.specs.Sheets.{Contents}
use Rattle.sheet_base.specs.Segments.{segments_in, begin_of, end_of, next_in}
use Rattle.sheet_base.specs.PointHeights.{Height, height_in}
use Rattle.sheet_base.specs.ImageFits.{Runs, run_begin}

-- the ends of a segment: their points, or their heights
pub record Ends (X : Type 0) : Type 0 where
  pub from : X
  pub to : X

-- the ends of a path's segment of this number, counted from 0
abbrev pub ends_at : List Pt → PathRow → ℕ → Ends Pt
ends_at points path segment = record { from = begin_of points path segment; to = end_of points path segment }

-- the ends of a path's segments, in order
abbrev pub ends_in : List Pt → PathRow → List (Ends Pt)
ends_in points path = map (ends_at points path) (range_with_len 0 (segments_in path))

-- the ends of all segments of some paths: path by path, and in each from point to point
abbrev pub ends_of : List Pt → List PathRow → List (Ends Pt)
ends_of points paths = flat_map (ends_in points) paths

-- the heights at the ends of a path's segment, of its segments, and of those of some paths
abbrev pub height_ends_at : List Height → PathRow → ℕ → Ends Height
height_ends_at heights path segment = record {
  from = height_in heights (path.first + segment);
  to = height_in heights (next_in path (path.first + segment));
}

abbrev pub height_ends_in : List Height → PathRow → List (Ends Height)
height_ends_in heights path = map (height_ends_at heights path) (range_with_len 0 (segments_in path))

abbrev pub height_ends_of : List Height → List PathRow → List (Ends Height)
height_ends_of heights paths = flat_map (height_ends_in heights) paths

-- two lists match: each of the one is alike that of the other at the same place
abbrev pub DoMatch : {X : Type 0} → (X → X → Type 0) → List X → List X → Type 0
DoMatch alike [] [] = Unit {0}
DoMatch alike [] (y ∷ ys) = ⊥
DoMatch alike (x ∷ xs) [] = ⊥
DoMatch alike (x ∷ xs) (y ∷ ys) = alike x y × DoMatch alike xs ys

-- what was written is read again as it was
abbrev pub AreTheSame : {X : Type 0} → X → X → Type 0
AreTheSame written again = again ≡ written

-- a path with its images in place of its points
abbrev pub row_of_images : Runs → PathRow → PathRow
row_of_images images path = record { kind = path.kind; first = run_begin images path.first; past = run_begin images path.past }

-- What was written is read as some sheet, and that one's segments in order go from image to image of the first sheet's
-- paths. The heights of their ends are those of the images, as the format reads such heights again.
pub record IsReadBack (reads : List ℕ → Contents → Type 0) (are_again : Ends Height → Ends Height → Type 0)
    (sheet : Contents) (images : Runs) (written : List ℕ) : Type 0 where
  pub back : Contents
  pub is_read : reads written back
  pub segments : ends_of back.points back.paths ≡ ends_of images.points (map (row_of_images images) sheet.paths)
  pub heights : DoMatch are_again (height_ends_of images.heights (map (row_of_images images) sheet.paths))
      (height_ends_of back.heights back.paths)
