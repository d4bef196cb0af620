-- The images of a sheet that fit it, path by path: their texts, that they may take the place of the points, and that
-- they make up all images.
use Rattle.std.proofs.Common.{◌≡◌, ℕ, ◌+◌, ◌<◌, true, List, [], ◌∷◌, ◌++◌, length, refl, ap, ◌∙◌}
use Rattle.std.proofs.Common.{sym, arith}
use Rattle.std.proofs.lemmas.List.{length-map, map-append}
use Rattle.std.specs.Prelude.{map, flat_map, Option, Some, None, slice_index_or, drop, ◌-◌}
use Rattle.std.specs.List.{list_all, AllByRecursion}
use Rattle.std.proofs.lemmas.Bool.{and_parts, eqb-true}
use Rattle.mm_decimal.specs.MetresTexts.{mm_text}
use Rattle.sheet_base.specs.PointHeights.{Height, Position, IsHeightWithinReach, points_of, heights_of}
use Rattle.sheet_base.specs.declared.edits.Edit.{Edit}
use Rattle.sheet_base.specs.declared.paths.PathKind.{PathKind}
use Rattle.sheet_base.specs.declared.paths.PathKind.TheVariants.{Dot, Line, Loop}
use Rattle.sheet_base.specs.declared.paths.PathRow.{PathRow}
use Rattle.sheet_base.specs.Sheets.{Contents}
use Rattle.sheet_base.specs.ImageFits.{Runs, run_begin, no_path, positions_in, path_positions, IsWithinReach, DoFit}
use Rattle.sheet_base.specs.ReadBack.{row_of_images}
use Rattle.sheet_base.proofs.ListParts.{all_parts}
use Rattle.sheet_base.proofs.DrawnPaths.{IsPositionWithinReach, IsSome, all_positions, row_from, rows_of, part_reached, by_kind}
use Rattle.sheet_base.proofs.DrawnPaths as sheets
use Rattle.sheet_base.proofs.PositionLists.{paired_points, paired_heights}
use Rattle.wkt_layer.specs.Tokens.{is_numeric}
use Rattle.wkt_layer.specs.Numbers.{Point, place_of, height_of, position_of}
use Rattle.wkt_layer.specs.Paths.{Path, kept_of, kept_points, kept_heights, rows_from, text_for, sheet_of}
use Rattle.wkt_layer.specs.InsidePasses.{IsWholeOf, AreWhole}
use Rattle.wkt_layer.specs.Texts.{height_text, image_text, texts_behind, list_text, ring_text, Writing, list, ring}
use Rattle.wkt_layer.specs.Texts.{writing_of}
use Rattle.wkt_layer.specs.Texts.{writing_text, what_text, wkt_edit_text}
use Rattle.wkt_layer.proofs.WrittenLayers.ImageTexts.{written_number}
use Rattle.wkt_layer.proofs.WrittenLayers.Turns.{drawn, redrawn, AllSuit}
use Rattle.wkt_layer.proofs.WrittenLayers.PointTurns.{kind_text, DoesSay}
use Rattle.wkt_layer.proofs.WrittenLayers.LineTurns.{is_no_feed, HasNoFeed, no_feed_append}

-- ---- no image's text has a line feed
numeric_no_feed : (byte : ℕ) → is_numeric byte ≡ true → is_no_feed byte ≡ true
numeric_no_feed byte is = grind (arith, is_no_feed, eqb-true)

numbers_no_feed : (bytes : List ℕ) → list_all is_numeric bytes ≡ true → HasNoFeed bytes
numbers_no_feed [] all = refl
numbers_no_feed (byte ∷ bytes) all = grind (arith, and_parts, numeric_no_feed, (numbers_no_feed bytes))

height_no_feed : (height : Height) → IsHeightWithinReach height → HasNoFeed (height_text height)
height_no_feed None within = refl
height_no_feed (Some height) within = let z = written_number height within in numbers_no_feed (mm_text height) z.numeric

image_no_feed : (image : Position) → IsPositionWithinReach image → HasNoFeed (image_text image)
image_no_feed image within =
    let x = written_number image.point.x within.0.0 in
    let y = written_number image.point.y within.0.1 in
    no_feed_append (mm_text image.point.x) (32 ∷ (mm_text image.point.y ++ height_text image.height))
    (numbers_no_feed (mm_text image.point.x) x.numeric)
    (no_feed_append (mm_text image.point.y) (height_text image.height)
    (numbers_no_feed (mm_text image.point.y) y.numeric)
    (height_no_feed image.height within.1))

behind_no_feed : (images : List Position) → AllByRecursion IsPositionWithinReach images
    → HasNoFeed (texts_behind images)
behind_no_feed [] within = refl
behind_no_feed (image ∷ images) within = no_feed_append (image_text image) (texts_behind images)
    (image_no_feed image within.0) (behind_no_feed images within.1)

list_no_feed : (images : List Position) → AllByRecursion IsPositionWithinReach images → HasNoFeed (list_text images)
list_no_feed [] within = refl
list_no_feed (image ∷ images) within = grind (arith, no_feed_append, image_no_feed, behind_no_feed)

ring_no_feed : (images : List Position) → AllByRecursion IsPositionWithinReach images → HasNoFeed (ring_text images)
ring_no_feed [] within = refl
ring_no_feed (image ∷ images) within = no_feed_append (list_text (image ∷ images)) (texts_behind (image ∷ []))
    (list_no_feed (image ∷ images) within) (behind_no_feed (image ∷ []) (within.0, tt))

path_reached : (rows : List PathRow) (images : Runs) (number : ℕ)
    → AllByRecursion IsPositionWithinReach (positions_in images)
    → AllByRecursion IsPositionWithinReach (path_positions rows images number)
path_reached rows images number reach =
    let path : PathRow = slice_index_or rows number no_path in
    (all_parts IsPositionWithinReach (run_begin images path.past - run_begin images path.first)
    (drop (run_begin images path.first) (positions_in images))
    (all_parts IsPositionWithinReach (run_begin images path.first) (positions_in images) reach).1).0

writing_no_feed : (rows : List PathRow) (images : Runs) → AllByRecursion IsPositionWithinReach (positions_in images)
    → (writing : Option Writing) → HasNoFeed (writing_text rows images writing)
writing_no_feed rows images within None = refl
writing_no_feed rows images within (Some (list nth)) =
    list_no_feed (path_positions rows images nth) (path_reached rows images nth within)
writing_no_feed rows images within (Some (ring nth)) =
    ring_no_feed (path_positions rows images nth) (path_reached rows images nth within)

pub texts_no_feed : (sheet : Contents) (images : Runs) → AllByRecursion IsWithinReach images.points
    → AllByRecursion IsHeightWithinReach images.heights → (edit : Edit)
    → HasNoFeed (wkt_edit_text sheet images edit)
texts_no_feed sheet images points heights edit =
    writing_no_feed sheet.paths images (part_reached images.points images.heights points heights) (writing_of edit.what)

-- ---- the texts of edits are those of the paths' images
pub texts_say : (sheet : Contents) (images : Runs)
    → DoesSay (wkt_edit_text sheet images) (path_positions sheet.paths images)
texts_say sheet images nth path =
    by_kind (λ kind. what_text sheet.paths images (text_for kind nth)
    ≡ kind_text kind (path_positions sheet.paths images nth)) refl refl refl path.kind

-- ---- what is drawn, as the rows, points and heights of a sheet
drawn_count : (path : Path) → length (kept_points path) ≡ length (drawn path).positions
drawn_count path = grind (arith, length-map)

rows_drawn : (first : ℕ) (paths : List Path) → rows_from first paths ≡ rows_of first (map drawn paths)
rows_drawn first [] = refl
rows_drawn first (path ∷ paths) =
    grind (arith, drawn_count, row_from, drawn, (rows_drawn (first + length (drawn path).positions) paths))

points_of_all : (points : List Point) → map place_of points ≡ points_of (map position_of points)
points_of_all [] = refl
points_of_all (p ∷ points) = ap (λ ps. place_of p ∷ ps) (points_of_all points)

heights_of_all : (points : List Point) → map height_of points ≡ heights_of (map position_of points)
heights_of_all [] = refl
heights_of_all (p ∷ points) = ap (λ hs. height_of p ∷ hs) (heights_of_all points)

points_drawn : (paths : List Path) → flat_map kept_points paths ≡ points_of (all_positions (map drawn paths))
points_drawn [] = refl
points_drawn (path ∷ paths) = grind (arith, all_positions, drawn, points_of_all, map-append, (points_drawn paths))

heights_drawn : (paths : List Path) → flat_map kept_heights paths ≡ heights_of (all_positions (map drawn paths))
heights_drawn [] = refl
heights_drawn (path ∷ paths) = grind (arith, all_positions, drawn, heights_of_all, map-append, (heights_drawn paths))

kept_some : (kind : PathKind) (first : Point) (more : List Point) → IsWholeOf kind more
    → 0 < length (map position_of (kept_of kind first more))
kept_some Dot first more whole = omega arith
kept_some Line first more whole = omega arith
kept_some Loop first [] whole = absurd whole
kept_some Loop first (next ∷ more) whole = omega arith

kept_one : (kind : PathKind) (first : Point) (more : List Point) → IsWholeOf kind more → kind ≡ Dot
    → length (map position_of (kept_of kind first more)) ≡ 1
kept_one Dot first more whole is = ap (λ ps. length (map position_of (first ∷ ps))) whole
kept_one Line first more whole is = cc
kept_one Loop first more whole is = cc

all_some : (paths : List Path) → AreWhole paths → AllByRecursion IsSome (map drawn paths)
all_some [] whole = tt
all_some (path ∷ paths) whole = grind (arith, kept_some, kept_one, (all_some paths whole.1))

-- ---- the whole sheet
module _ (paths : List Path) (images : Runs) (fit : DoFit (sheet_of paths) images) where
  count : length (flat_map kept_points paths) ≡ length (all_positions (map drawn paths))
  count = ap length (points_drawn paths)
      ∙ length-map (all_positions (map drawn paths)) (λ (position : Position). position.point)

  pub sheet_suits : AreWhole paths → AllSuit (path_positions (rows_from 0 paths) images) 0 paths
  sheet_suits whole = sheets.sheet_suits (sheet_of paths) images fit (map drawn paths) (rows_drawn 0 paths) count
      (heights_drawn paths) (all_some paths whole)

  -- what is drawn again
  module _ (others : List Path)
      (are : map drawn others ≡ redrawn (path_positions (rows_from 0 paths) images) 0 paths) where
    positions_again : all_positions (map drawn others) ≡ positions_in images
    positions_again = ap all_positions are
        ∙ sheets.positions_again (sheet_of paths) images fit (map drawn paths) (rows_drawn 0 paths) count

    pub points_again : flat_map kept_points others ≡ images.points
    points_again = points_drawn others ∙ ap points_of positions_again
        ∙ paired_points images.points images.heights (sym fit.height_each)

    pub heights_again : flat_map kept_heights others ≡ images.heights
    heights_again = heights_drawn others ∙ ap heights_of positions_again
        ∙ paired_heights images.points images.heights (sym fit.height_each)

    pub rows_again : rows_from 0 others ≡ map (row_of_images images) (rows_from 0 paths)
    rows_again =
        rows_drawn 0 others ∙ ap (rows_of 0) are
        ∙ sheets.rows_again (sheet_of paths) images fit (map drawn paths) (rows_drawn 0 paths) count
