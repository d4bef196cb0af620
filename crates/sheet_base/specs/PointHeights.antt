-- The heights of points, in millimetres: of each point its height, or none.
use Rattle.std.specs.Prelude.{ℕ, ℤ, ◌≤◌, unsigned_abs, Option, Some, None, List, replicate, slice_index_or}
use Rattle.std.specs.Prelude.{map, [], ◌∷◌}
use Rattle.mm_decimal.specs.declared.limits.TheConstants.{LIMIT}
use Rattle.plane_base.specs.declared.shapes.Pt.{Pt}

-- a height, where there is one
abbrev pub Height : Type 0
Height = Option ℤ

-- the height of the point of this number
abbrev pub height_in : List Height → ℕ → Height
height_in heights number = slice_index_or heights number None

-- those of this many points that have none
abbrev pub no_heights : ℕ → List Height
no_heights count = replicate count None

-- a height is at most so far from zero as a coordinate
abbrev pub IsHeightWithinReach : Height → Type 0
IsHeightWithinReach None = Unit {0}
IsHeightWithinReach (Some height) = unsigned_abs height ≤ LIMIT

-- a point and its height, or none
pub record Position : Type 0 where
  pub point : Pt
  pub height : Height

-- points with their heights, as far as both go
abbrev pub points_with_heights : List Pt → List Height → List Position
points_with_heights [] heights = []
points_with_heights (point ∷ points) [] = []
points_with_heights (point ∷ points) (height ∷ heights) =
    record { point = point; height = height } ∷ points_with_heights points heights

abbrev pub points_of : List Position → List Pt
points_of positions = map (λ (position : Position). position.point) positions

abbrev pub heights_of : List Position → List Height
heights_of positions = map (λ (position : Position). position.height) positions
