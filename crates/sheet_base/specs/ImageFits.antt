-- When images fit a sheet: one run of images for each of its points.
use Rattle.std.specs.Prelude.{◌≡◌, ◌≢◌, ◌⊎◌, ℕ, ◌+◌, ◌-◌, ◌<◌, ◌≤◌, ◌^◌, unsigned_abs, All, List, length, take, drop}
use Rattle.std.specs.Prelude.{slice_index_or, ◌&&◌}
use Rattle.std.specs.Option.{is_some}
use Rattle.mm_decimal.specs.declared.limits.TheConstants.{LIMIT}
use Rattle.plane_base.specs.declared.shapes.Pt.{Pt}
use Rattle.sheet_base.specs.declared.paths.PathKind.TheVariants.{Dot, Loop}
use Rattle.sheet_base.specs.declared.paths.PathRow.{PathRow}
use Rattle.sheet_base.specs.Sheets.{Contents}
use Rattle.sheet_base.specs.Segments.{points_in, next_in}
use Rattle.sheet_base.specs.PointHeights.{Height, Position, height_in, points_with_heights, IsHeightWithinReach}

-- the images of a layer's points and crossings in order, their heights, and the place of each point's own image among
-- them
pub record Runs : Type 0 where
  pub points : List Pt
  pub heights : List Height
  pub run : List ℕ

-- what each value of the type of images keeps: one height for each image, or none
pub record HaveHeights (images : Runs) : Type 0 where
  pub each : length images.heights ≡ length images.points
  pub in_reach : All IsHeightWithinReach images.heights

-- where the run of this point begins; after the last one, where the images end
abbrev pub run_begin : Runs → ℕ → ℕ
run_begin images point = slice_index_or images.run point (length images.points)

-- the images of the points from one number to before another, each with those of the crossings after it
abbrev pub images_of : Runs → ℕ → ℕ → List Pt
images_of images first past = take (run_begin images past - run_begin images first)
    (drop (run_begin images first) images.points)

-- those of a path's points
abbrev pub row_images : Runs → PathRow → List Pt
row_images images path = images_of images path.first path.past

abbrev pub no_path : PathRow
no_path = record { kind = Dot; first = 0; past = 0 }

-- those of the path of this number; there are none where there is no such path
abbrev pub path_images : List PathRow → Runs → ℕ → List Pt
path_images paths images number = row_images images (slice_index_or paths number no_path)

-- the images with their heights: all, those of the points from one number to before another, and those of the path of a
-- number
abbrev pub positions_in : Runs → List Position
positions_in images = points_with_heights images.points images.heights

abbrev pub positions_of : Runs → ℕ → ℕ → List Position
positions_of images first past = take (run_begin images past - run_begin images first)
    (drop (run_begin images first) (positions_in images))

abbrev pub path_positions : List PathRow → Runs → ℕ → List Position
path_positions paths images number =
    positions_of images (slice_index_or paths number no_path).first (slice_index_or paths number no_path).past

-- the run of this point is its own image alone
abbrev pub IsAlone : Runs → ℕ → Type 0
IsAlone images point = run_begin images (point + 1) ≡ run_begin images point + 1

-- no crossing comes after the last point of the path, where that begins no segment to another point
abbrev pub EndsAlone : Runs → PathRow → Type 0
EndsAlone images path = (path.kind ≢ Loop) ⊎ (points_in path ≡ 1) → (last : ℕ) → last + 1 ≡ path.past
    → IsAlone images last

-- an image after the own image of a path's point has a height exactly where both ends of its segment have one
abbrev pub HaveCrossingHeights : Contents → Runs → PathRow → Type 0
HaveCrossingHeights sheet images path = (point image : ℕ) → path.first ≤ point → point < path.past
    → run_begin images point < image → image < run_begin images (point + 1)
    → is_some (height_in images.heights image)
    ≡ (is_some (height_in sheet.heights point) && is_some (height_in sheet.heights (next_in path point)))

abbrev pub IsWithinReach : Pt → Type 0
IsWithinReach point = (unsigned_abs point.x ≤ LIMIT) × (unsigned_abs point.y ≤ LIMIT)

-- Each point of the sheet has one run, the runs follow each other without a gap from the first image to the last, and
-- none is empty. The first image of a run has the height of its point, or none where the point has none.
pub record DoFit (sheet : Contents) (images : Runs) : Type 0 where
  pub few : length images.points < 2 ^ 32
  pub one_each : length images.run ≡ length sheet.points
  pub begins : run_begin images 0 ≡ 0
  pub rises : (point : ℕ) → point < length sheet.points → run_begin images point < run_begin images (point + 1)
  pub alone : All (EndsAlone images) sheet.paths
  pub in_reach : All IsWithinReach images.points
  pub height_each : length images.heights ≡ length images.points
  pub heights_in_reach : All IsHeightWithinReach images.heights
  pub own_heights : (point : ℕ) → point < length sheet.points
      → height_in images.heights (run_begin images point) ≡ height_in sheet.heights point
  pub crossing_heights : All (HaveCrossingHeights sheet images) sheet.paths
