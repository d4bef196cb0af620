-- Boxes by size, as a grid keeps them on its levels. Only private functions speak of it.
use Rattle.std.specs.Prelude.{ℕ, suc, ◌-◌, ◌<◌, ◌≤◌, max, ◌-ℤ◌, unsigned_abs, List, [], ◌∷◌, length, All, Contains}
use Rattle.std.specs.Prelude.{map, cond, nat_eq}
use Rattle.std.specs.List.Sorted.{IsStrictlyIncreasing}
use Rattle.std.specs.Int.{w64, leading_zeros}
use Rattle.plane_base.specs.declared.shapes.Rect.{Rect}
use Rattle.cell_grid.specs.Grids.{Boxes}

-- the longer of the two sides
abbrev pub longer_side : Rect → ℕ
longer_side rect = max (unsigned_abs (rect.x1 -ℤ rect.x0)) (unsigned_abs (rect.y1 -ℤ rect.y0))

-- how many binary digits a number below 2 ^ 64 has, none where it is 0
abbrev pub binary_digits : ℕ → ℕ
binary_digits n = 64 - leading_zeros w64 n

-- the level of sizes on which a box is
unfoldable pub level_of : Rect → ℕ
level_of rect = binary_digits (longer_side rect)

-- each of the boxes is of one of this many levels
abbrev pub AreOfLevels : ℕ → List Rect → Type 0
AreOfLevels count boxes = All (λ rect. level_of rect < count) boxes

-- these are levels, ascending, and each box is on one of them
pub record AreUsed (count : ℕ) (boxes : List Rect) (used : List ℕ) : Type 0 where
  pub ascending : IsStrictlyIncreasing used
  pub below : All (λ level. level < count) used
  pub few : length used ≤ count
  pub each : All (λ rect. Contains used (level_of rect)) boxes

-- at which place a number is first in a list, from 0
abbrev pub place_in : List ℕ → ℕ → ℕ
place_in [] number = 0
place_in (first ∷ rest) number = cond (nat_eq first number) 0 (suc (place_in rest number))

-- the boxes, each on the level that is the place of its level of sizes among those that have boxes
abbrev pub grid_of : List Rect → List ℕ → Boxes
grid_of boxes used = record {
  boxes = boxes;
  box_levels = map (λ rect. place_in used (level_of rect)) boxes;
  levels = length used;
}
