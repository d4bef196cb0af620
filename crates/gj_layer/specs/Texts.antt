-- The texts that take the place of edits in GeoJSON (RFC 7946, sections 3.1.1 and 5).
use Rattle.std.specs.Prelude.{◌≡◌, ◌⊎◌, ℕ, ℤ, ◌-◌, ◌≤ℤ◌, int_le, codes, List, [], ◌∷◌, ◌++◌, take, drop, map, flat_map}
use Rattle.std.specs.Prelude.{find, All, Contains, Bool, Option, Some, None}
use Rattle.std.specs.List.{list_all}
use Rattle.std.specs.Option.{unwrap_or}
use Rattle.mm_decimal.specs.MetresTexts.{mm_text}
use Rattle.plane_base.specs.declared.shapes.Pt.{Pt}
use Rattle.plane_base.specs.declared.shapes.Rect.{Rect}
use Rattle.sheet_base.specs.declared.paths.PathRow.{PathRow}
use Rattle.sheet_base.specs.declared.edits.Edit.{Edit}
use Rattle.sheet_base.specs.declared.edits.What.{What}
use Rattle.sheet_base.specs.declared.edits.What.TheVariants.{GeoList, GeoRing, Bounds, Null}
use Rattle.sheet_base.specs.Sheets.{Contents}
use Rattle.sheet_base.specs.PointHeights.{Height, Position, points_of, heights_of}
use Rattle.sheet_base.specs.ImageFits.{Runs, positions_of, path_positions}
use Rattle.sheet_base.specs.ImageLists as lists
use Rattle.gj_layer.specs.declared.boxes.Levels.{Levels}
use Rattle.gj_layer.specs.declared.boxes.BoundingBox.{BoundingBox}

-- a height after a comma, where there is one
abbrev pub height_text : Height → List ℕ
height_text None = []
height_text (Some z) = 44 ∷ mm_text z

-- two numbers, and a height where there is one, with commas between them
abbrev pub numbers_text : ℤ → ℤ → Height → List ℕ
numbers_text x y height = mm_text x ++ (44 ∷ (mm_text y ++ height_text height))

-- a position
abbrev pub image_text : Position → List ℕ
image_text image = 91 ∷ (numbers_text image.point.x image.point.y image.height ++ 93 ∷ [])

-- each of these images after a comma
abbrev pub texts_behind : List Position → List ℕ
texts_behind images = lists.texts_behind (44 ∷ []) image_text images

-- images with a comma between them
abbrev pub list_text : List Position → List ℕ
list_text images = lists.list_text (44 ∷ []) image_text images

-- images with a comma between them, and the first image again
abbrev pub ring_text : List Position → List ℕ
ring_text images = lists.ring_text (44 ∷ []) image_text images

-- the least of some heights, and the greatest, where there are any
abbrev pub lowest_of : Option Levels → Height
lowest_of None = None
lowest_of (Some levels) = Some levels.z0

abbrev pub highest_of : Option Levels → Height
highest_of None = None
highest_of (Some levels) = Some levels.z1

-- a box: the least numbers of its images, and then the greatest
abbrev pub box_text : BoundingBox → List ℕ
box_text box = 91 ∷ (numbers_text box.plane.x0 box.plane.y0 (lowest_of box.levels)
    ++ (44 ∷ (numbers_text box.plane.x1 box.plane.y1 (highest_of box.levels) ++ 93 ∷ [])))

abbrev pub x_of : Pt → ℤ
x_of point = point.x

abbrev pub y_of : Pt → ℤ
y_of point = point.y

-- whether the number is at most each of these numbers, or at least each of them
abbrev pub is_lower_bound : List ℤ → ℤ → Bool
is_lower_bound numbers bound = list_all (λ number. int_le bound number) numbers

abbrev pub is_upper_bound : List ℤ → ℤ → Bool
is_upper_bound numbers bound = list_all (λ number. int_le number bound) numbers

-- the least of a number and others, and the greatest: the one of them that is at most each, or at least each; there
-- always is one
abbrev pub least_of : ℤ → List ℤ → ℤ
least_of first others = unwrap_or (find (is_lower_bound (first ∷ others)) (first ∷ others)) first

abbrev pub greatest_of : ℤ → List ℤ → ℤ
greatest_of first others = unwrap_or (find (is_upper_bound (first ∷ others)) (first ∷ others)) first

-- the box of a point and others: on each axis the least and the greatest of their numbers
abbrev pub plane_box_of : Pt → List Pt → Rect
plane_box_of point points = record {
  x0 = least_of point.x (map x_of points);
  y0 = least_of point.y (map y_of points);
  x1 = greatest_of point.x (map x_of points);
  y1 = greatest_of point.y (map y_of points);
}

-- all heights, where there is no point without one
abbrev pub with_first : Height → Option (List ℤ) → Option (List ℤ)
with_first (Some z) (Some zs) = Some (z ∷ zs)
with_first height zs = None

abbrev pub all_heights : List Height → Option (List ℤ)
all_heights [] = Some []
all_heights (height ∷ heights) = with_first height (all_heights heights)

-- the least and the greatest of them
abbrev pub levels_of : Option (List ℤ) → Option Levels
levels_of (Some (z ∷ zs)) = Some (record { z0 = least_of z zs; z1 = greatest_of z zs })
levels_of heights = None

-- the box of an image and others
abbrev pub box_of : Position → List Position → BoundingBox
box_of image images = record {
  plane = plane_box_of image.point (points_of images);
  levels = levels_of (all_heights (heights_of (image ∷ images)));
}

-- the box of all these images, or null where there is none
abbrev pub bounds_text : List Position → List ℕ
bounds_text [] = codes "null"
bounds_text (image ∷ images) = box_text (box_of image images)

-- the number is the first one or one of the others, and none of them is less; or none is greater
abbrev pub IsLeastOf : ℤ → List ℤ → ℤ → Type 0
IsLeastOf first others least = ((least ≡ first) ⊎ Contains others least)
    × ((least ≤ℤ first) × All (λ other. least ≤ℤ other) others)

abbrev pub IsGreatestOf : ℤ → List ℤ → ℤ → Type 0
IsGreatestOf first others greatest = ((greatest ≡ first) ⊎ Contains others greatest)
    × ((first ≤ℤ greatest) × All (λ other. other ≤ℤ greatest) others)

-- where each image has a height, these are the least and the greatest of all; else there are none
abbrev pub AreLevelsOf : Option (List ℤ) → Option Levels → Type 0
AreLevelsOf (Some (z ∷ zs)) (Some levels) = IsLeastOf z zs levels.z0 × IsGreatestOf z zs levels.z1
AreLevelsOf (Some (z ∷ zs)) None = ⊥
AreLevelsOf heights levels = levels ≡ None

-- the sides of the box are the least and the greatest numbers of these images on each axis
pub record IsLeastBox (image : Position) (images : List Position) (box : BoundingBox) : Type 0 where
  pub left : IsLeastOf image.point.x (map x_of (points_of images)) box.plane.x0
  pub bottom : IsLeastOf image.point.y (map y_of (points_of images)) box.plane.y0
  pub right : IsGreatestOf image.point.x (map x_of (points_of images)) box.plane.x1
  pub top : IsGreatestOf image.point.y (map y_of (points_of images)) box.plane.y1
  pub levels : AreLevelsOf (all_heights (heights_of (image ∷ images))) box.levels

-- a law: the box that is written is the least one
abbrev pub BoxesAreLeast : Type 0
BoxesAreLeast = (image : Position) (images : List Position) → IsLeastBox image images (box_of image images)

-- the images of a path's points, with those of the crossings and all heights
abbrev pub row_positions : Runs → PathRow → List Position
row_positions images path = positions_of images path.first path.past

abbrev pub what_text : List PathRow → Runs → What → List ℕ
what_text paths images (GeoList number) = list_text (path_positions paths images number)
what_text paths images (GeoRing number) = ring_text (path_positions paths images number)
what_text paths images (Bounds first past) =
    bounds_text (flat_map (row_positions images) (take (past - first) (drop first paths)))
what_text paths images Null = codes "null"
what_text paths images what = []

-- the text of an edit, for the images of a sheet
abbrev pub geojson_edit_text : Contents → Runs → Edit → List ℕ
geojson_edit_text sheet images edit = what_text sheet.paths images edit.what
