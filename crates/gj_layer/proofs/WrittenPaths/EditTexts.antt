-- The texts of a sheet's edits: those of paths are their images, and the others are values of one level.
use Rattle.std.proofs.Common.{◌≡◌, ◌-◌, ◌≤◌, Bool, true, false, List, [], ◌∷◌, ◌++◌, take, drop, refl, ap, ◌∙◌}
use Rattle.std.proofs.Common.{subst, ℤ, append_assoc, append-nil, arith}
use Rattle.std.specs.Prelude.{flat_map, fold, int_lt, unsigned_abs, Option, Some, None, if◌then◌else◌}
use Rattle.std.specs.Int.{int_min, int_max}
use Rattle.std.specs.List.{AllByRecursion}
use Rattle.mm_decimal.specs.declared.limits.TheConstants.{LIMIT}
use Rattle.jtext.specs.Values.{null, array, no_element}
use Rattle.sheet_base.specs.declared.paths.PathRow.{PathRow}
use Rattle.sheet_base.specs.PointHeights.{Height, Position, IsHeightWithinReach}
use Rattle.sheet_base.specs.ImageFits.{Runs, positions_in, path_positions, DoFit}
use Rattle.plain_laws.proofs.Lists.{all_append}
use Rattle.gj_layer.specs.declared.boxes.Levels.{Levels}
use Rattle.gj_layer.specs.declared.boxes.BoundingBox.{BoundingBox}
use Rattle.gj_layer.specs.Paths.{Part, text_for, rows_from, sheet_of}
use Rattle.gj_layer.specs.InsideBoxes.{level_of, level_with, box_of_image, widened_with}
use Rattle.gj_layer.specs.Texts.{numbers_text, lowest_of, highest_of, box_text, bounds_text, row_positions, what_text}
use Rattle.gj_layer.specs.Texts.{geojson_edit_text}
use Rattle.gj_layer.proofs.WrittenPaths.BoxLemmas.{box_is}
use Rattle.sheet_base.proofs.DrawnPaths.{IsPositionWithinReach, all_of, all_reach, by_kind}
use Rattle.gj_layer.proofs.WrittenPaths.DrawnImages.{kind_text}
use Rattle.gj_layer.proofs.WrittenPaths.ImageValues.{numbers_and, numbers_spelled, numbers_are}
use Rattle.gj_layer.proofs.WrittenValues.Turns.{IsFlat, DoesSay}

-- ---- boxes
abbrev AreLevelsWithin : Option Levels → Type 0
AreLevelsWithin None = Unit {0}
AreLevelsWithin (Some levels) = (unsigned_abs levels.z0 ≤ LIMIT) × (unsigned_abs levels.z1 ≤ LIMIT)

record IsBoxWithin (box : BoundingBox) : Type 0 where
  x0 : unsigned_abs box.plane.x0 ≤ LIMIT
  y0 : unsigned_abs box.plane.y0 ≤ LIMIT
  x1 : unsigned_abs box.plane.x1 ≤ LIMIT
  y1 : unsigned_abs box.plane.y1 ≤ LIMIT
  levels : AreLevelsWithin box.levels

one_within : (test : Bool) (a b : ℤ) → unsigned_abs a ≤ LIMIT → unsigned_abs b ≤ LIMIT
    → unsigned_abs (if test then a else b) ≤ LIMIT
one_within true a b p q = p
one_within false a b p q = q

least_within : (a b : ℤ) → unsigned_abs a ≤ LIMIT → unsigned_abs b ≤ LIMIT → unsigned_abs (int_min a b) ≤ LIMIT
least_within a b p q = one_within (int_lt b a) b a q p

greatest_within : (a b : ℤ) → unsigned_abs a ≤ LIMIT → unsigned_abs b ≤ LIMIT → unsigned_abs (int_max a b) ≤ LIMIT
greatest_within a b p q = one_within (int_lt b a) a b p q

level_within : (height : Height) → IsHeightWithinReach height → AreLevelsWithin (level_of height)
level_within None within = tt
level_within (Some z) within = (within, within)

levels_within : (levels : Option Levels) (height : Height) → AreLevelsWithin levels → IsHeightWithinReach height
    → AreLevelsWithin (level_with levels height)
levels_within (Some levels) (Some z) within more =
    (least_within levels.z0 z within.0 more, greatest_within levels.z1 z within.1 more)
levels_within None (Some z) within more = tt
levels_within levels _ within more = tt

widened_within : (box : BoundingBox) (images : List Position) → IsBoxWithin box
    → AllByRecursion IsPositionWithinReach images → IsBoxWithin (fold widened_with box images)
widened_within box [] within all = within
widened_within box (image ∷ images) within all =
    widened_within (widened_with box image) images
    (record {
      x0 = least_within box.plane.x0 image.point.x within.x0 all.0.0.0;
      y0 = least_within box.plane.y0 image.point.y within.y0 all.0.0.1;
      x1 = greatest_within box.plane.x1 image.point.x within.x1 all.0.0.0;
      y1 = greatest_within box.plane.y1 image.point.y within.y1 all.0.0.1;
      levels = levels_within box.levels image.height within.levels all.0.1;
    })
    all.1

lowest_within : (levels : Option Levels) → AreLevelsWithin levels → IsHeightWithinReach (lowest_of levels)
lowest_within None within = tt
lowest_within (Some levels) within = within.0

highest_within : (levels : Option Levels) → AreLevelsWithin levels → IsHeightWithinReach (highest_of levels)
highest_within None within = tt
highest_within (Some levels) within = within.1

box_flat : (box : BoundingBox) → IsBoxWithin box → IsFlat (box_text box)
box_flat box within = record {
  value = array [] (numbers_and box.plane.x0 box.plane.y0 (lowest_of box.levels)
      (numbers_and box.plane.x1 box.plane.y1 (highest_of box.levels) no_element));
  text =
      let least = numbers_text box.plane.x0 box.plane.y0 (lowest_of box.levels) in
      let greatest = numbers_text box.plane.x1 box.plane.y1 (highest_of box.levels) in
      ap (λ text. 91 ∷ (text ++ 93 ∷ []))
      (numbers_spelled box.plane.x0 box.plane.y0 (lowest_of box.levels)
      (numbers_and box.plane.x1 box.plane.y1 (highest_of box.levels) no_element)
      ∙ ap (λ text. least ++ (44 ∷ text))
      (numbers_spelled box.plane.x1 box.plane.y1 (highest_of box.levels) no_element ∙ append-nil greatest))
      ∙ ap (λ text. 91 ∷ text) (append_assoc least (44 ∷ greatest) (93 ∷ []));
  valid = λ depth. (
    refl,
    numbers_are depth box.plane.x0 box.plane.y0 (lowest_of box.levels)
        (numbers_and box.plane.x1 box.plane.y1 (highest_of box.levels) no_element) within.x0 within.y0
        (lowest_within box.levels within.levels)
        (numbers_are depth box.plane.x1 box.plane.y1 (highest_of box.levels) no_element within.x1 within.y1
        (highest_within box.levels within.levels) tt),
  );
}

bounds_flat : (images : List Position) → AllByRecursion IsPositionWithinReach images → IsFlat (bounds_text images)
bounds_flat [] all = record { value = null; text = refl; valid = λ depth. tt }
bounds_flat (image ∷ images) all =
    subst (λ (box : BoundingBox). IsFlat (box_text box)) (box_is image images)
    (box_flat (fold widened_with (box_of_image image) images)
    (widened_within (box_of_image image) images (record {
      x0 = all.0.0.0;
      y0 = all.0.0.1;
      x1 = all.0.0.0;
      y1 = all.0.0.1;
      levels = level_within image.height all.0.1;
    })
    all.1))

-- ---- all images are within reach
rows_within : (images : Runs) (rows : List PathRow) → AllByRecursion IsPositionWithinReach (positions_in images)
    → AllByRecursion IsPositionWithinReach (flat_map (row_positions images) rows)
rows_within images [] all = tt
rows_within images (row ∷ rows) all =
    grind (arith, all_append, IsPositionWithinReach, all_of, (rows_within images rows all))

pub texts_say : (part : Part) (images : Runs) → DoFit (sheet_of part) images
    → DoesSay (geojson_edit_text (sheet_of part) images) (path_positions (rows_from 0 part.paths) images)
texts_say part images fit =
    let rows = rows_from 0 part.paths in
    record {
      paths = λ number path. by_kind (λ kind. what_text rows images (text_for kind number)
          ≡ kind_text kind (path_positions rows images number)) refl refl refl path.kind;
      boxes = λ one first past. bounds_flat (flat_map (row_positions images) (take (past - first) (drop first rows)))
          (rows_within images (take (past - first) (drop first rows)) (all_reach (sheet_of part) images fit));
      nulls = λ one. refl;
    }
