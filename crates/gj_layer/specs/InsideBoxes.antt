-- A box that grows image by image, as the code finds it. Only private functions speak of it.
use Rattle.std.specs.Prelude.{ℕ, codes, List, [], ◌∷◌, fold, Option, Some, None}
use Rattle.std.specs.Int.{int_min, int_max}
use Rattle.plane_base.specs.Boxes.{box_of_point, box_with_point}
use Rattle.sheet_base.specs.PointHeights.{Height, Position}
use Rattle.gj_layer.specs.declared.boxes.Levels.{Levels}
use Rattle.gj_layer.specs.declared.boxes.BoundingBox.{BoundingBox}
use Rattle.gj_layer.specs.Texts.{box_text}

-- the levels of one height, and of others and one more, where all are there
abbrev pub level_of : Height → Option Levels
level_of None = None
level_of (Some z) = Some (record { z0 = z; z1 = z })

abbrev pub level_with : Option Levels → Height → Option Levels
level_with (Some levels) (Some z) = Some (record { z0 = int_min levels.z0 z; z1 = int_max levels.z1 z })
level_with levels height = None

-- the box of one image, and the least box that has this image, too
abbrev pub box_of_image : Position → BoundingBox
box_of_image image = record { plane = box_of_point image.point; levels = level_of image.height }

abbrev pub widened_with : BoundingBox → Position → BoundingBox
widened_with box image = record { plane = box_with_point box.plane image.point; levels = level_with box.levels image.height }

-- the least box that has these images, too; none, where there is none
abbrev pub widened_by : Option BoundingBox → List Position → Option BoundingBox
widened_by bounds [] = bounds
widened_by None (image ∷ images) = Some (fold widened_with (box_of_image image) images)
widened_by (Some bounds) (image ∷ images) = Some (fold widened_with bounds (image ∷ images))

abbrev pub bounded_text : Option BoundingBox → List ℕ
bounded_text None = codes "null"
bounded_text (Some bounds) = box_text bounds
