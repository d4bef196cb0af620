-- Cells of a level, and where they are in the list of all cells. Only private functions speak of it.
use Rattle.std.specs.Prelude.{◌≡◌, ℕ, ◌+◌, ◌*◌, ◌%◌, ◌^◌, ◌<◌, ◌≤◌, ℤ, List, [], length, Contains, slice_index_or}
use Rattle.std.specs.Prelude.{bit_and}
use Rattle.std.specs.List.Sorted.{IsStrictlyIncreasing}
use Rattle.plane_base.specs.declared.shapes.Pt.{Pt}
use Rattle.plane_base.specs.declared.shapes.Rect.{Rect}
use Rattle.plane_base.specs.Boxes.{HasPoint}
use Rattle.cell_grid.specs.Boxes.{box_at}
use Rattle.cell_grid.specs.InsideSizes.{level_of}
use Rattle.cell_grid.specs.Stripes.{stripe_of}
use Rattle.cell_grid.specs.declared.levels.Level.{Level}

abbrev pub column_of : Level → ℤ → ℕ
column_of level x = stripe_of level.low.x level.shift x

abbrev pub row_of : Level → ℤ → ℕ
row_of level y = stripe_of level.low.y level.shift y

-- where the cell of a column and a row is in the list of all cells
unfoldable pub place_of : Level → ℕ → ℕ → ℕ
place_of level column row = level.base + bit_and (((level.skew * row) % 2 ^ 32 + column) % 2 ^ 32) level.mask

-- where the cell of a point is
abbrev pub cell_of : Level → Pt → ℕ
cell_of level p = place_of level (column_of level p.x) (row_of level p.y)

-- the numbers in the cell at a place
abbrev pub numbers_at : List (List ℕ) → ℕ → List ℕ
numbers_at cells place = slice_index_or cells place []

-- the number of a box on this level
abbrev pub IsOnLevel : List Rect → ℕ → ℕ → Type 0
IsOnLevel boxes level number = (number < length boxes) × (level_of (box_at boxes number) ≡ level)

-- the places of the level are in the list
abbrev pub HasPlacesOf : Level → List (List ℕ) → Type 0
HasPlacesOf level cells = level.base + level.mask < length cells

-- one of the places of the level
abbrev pub IsPlaceOf : Level → ℕ → Type 0
IsPlaceOf level place = (level.base ≤ place) × (place ≤ level.base + level.mask)

-- each number in a cell is below `count`
abbrev pub HasNumbersBelow : ℕ → List (List ℕ) → Type 0
HasNumbersBelow count cells = (place k : ℕ) → Contains (numbers_at cells place) k → k < count

-- the boxes of this level, and no others, are in its cells, each in all cells that share a point with it
pub record IsLevelOf (boxes : List Rect) (cells : List (List ℕ)) (level : Level) : Type 0 where
  pub places : HasPlacesOf level cells
  pub of_level : (place k : ℕ) → IsPlaceOf level place → Contains (numbers_at cells place) k
      → IsOnLevel boxes level.number k
  pub held : (k : ℕ) (p : Pt) → IsOnLevel boxes level.number k → HasPoint (box_at boxes k) p
      → Contains (numbers_at cells (cell_of level p)) k

-- the numbers of each cell ascend
abbrev pub DoAscend : List (List ℕ) → Type 0
DoAscend cells = (place : ℕ) → IsStrictlyIncreasing (numbers_at cells place)
