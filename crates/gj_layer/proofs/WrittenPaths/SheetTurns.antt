-- The images of a sheet that fit it, path by path: they may take the place of the points, and make up all images.
use Rattle.std.proofs.Common.{◌≡◌, ℕ, ◌+◌, List, [], ◌∷◌, ◌++◌, length, refl, sym, ap, ◌∙◌}
use Rattle.std.specs.Prelude.{map}
use Rattle.std.specs.List.{AllByRecursion}
use Rattle.sheet_base.specs.PointHeights.{points_of, heights_of}
use Rattle.sheet_base.specs.ImageFits.{Runs, positions_in, path_positions, DoFit}
use Rattle.sheet_base.specs.ReadBack.{row_of_images}
use Rattle.sheet_base.proofs.PositionLists.{paired_points, paired_heights}
use Rattle.gj_layer.specs.Paths.{Path, Part, rows_from, vertices_of, sheet_of}
use Rattle.gj_layer.proofs.OpenObjects.Fine.{IsSound}
use Rattle.sheet_base.proofs.DrawnPaths.{IsSome, all_positions, row_from, rows_of}
use Rattle.sheet_base.proofs.DrawnPaths as sheets
use Rattle.gj_layer.proofs.WrittenPaths.DrawnImages.{drawn, redrawn, AllSuit}
use Rattle.gj_layer.proofs.Coordinates.PathsSoFar.{length-vertices}

-- ---- what is drawn, as the rows and points of a sheet
rows_drawn : (first : ℕ) (paths : List Path) → rows_from first paths ≡ rows_of first (map drawn paths)
rows_drawn first [] = refl
rows_drawn first (path ∷ paths) = ap (λ rows. row_from first (drawn path) ∷ rows)
    (rows_drawn (first + length path.positions) paths)

vertices_drawn : (paths : List Path) → vertices_of paths ≡ all_positions (map drawn paths)
vertices_drawn [] = refl
vertices_drawn (path ∷ paths) = ap (λ ps. path.positions ++ ps) (vertices_drawn paths)

all_some : (paths : List Path) → AllByRecursion IsSound paths → AllByRecursion IsSome (map drawn paths)
all_some [] sound = tt
all_some (path ∷ paths) sound = (record { some = sound.0.0; dot = sound.0.1 }, all_some paths sound.1)

-- ---- the whole sheet
module _ (part : Part) (images : Runs) (fit : DoFit (sheet_of part) images) where
  count : length (sheet_of part).points ≡ length (all_positions (map drawn part.paths))
  count = length-vertices (vertices_of part.paths) ∙ ap length (vertices_drawn part.paths)

  pub sheet_suits : AllByRecursion IsSound part.paths
      → AllSuit (path_positions (rows_from 0 part.paths) images) 0 part.paths
  sheet_suits sound = sheets.sheet_suits (sheet_of part) images fit (map drawn part.paths) (rows_drawn 0 part.paths)
      count (ap heights_of (vertices_drawn part.paths)) (all_some part.paths sound)

  -- the paths that are read again
  module _ (others : List Path)
      (are : map drawn others ≡ redrawn (path_positions (rows_from 0 part.paths) images) 0 part.paths) where
    vertices_again : vertices_of others ≡ positions_in images
    vertices_again =
        vertices_drawn others ∙ ap all_positions are
        ∙ sheets.positions_again (sheet_of part) images fit (map drawn part.paths) (rows_drawn 0 part.paths) count

    pub points_again : points_of (vertices_of others) ≡ images.points
    points_again = ap points_of vertices_again
        ∙ paired_points images.points images.heights (sym fit.height_each)

    pub heights_again : heights_of (vertices_of others) ≡ images.heights
    heights_again = ap heights_of vertices_again
        ∙ paired_heights images.points images.heights (sym fit.height_each)

    pub rows_again : rows_from 0 others ≡ map (row_of_images images) (rows_from 0 part.paths)
    rows_again =
        rows_drawn 0 others ∙ ap (rows_of 0) are
        ∙ sheets.rows_again (sheet_of part) images fit (map drawn part.paths) (rows_drawn 0 part.paths) count
