-- How a list of numbers grows while boxes are looked at. Only private functions speak of it.
use Rattle.std.specs.Prelude.{◌≡◌, ◌⊎◌, ℕ, ◌<◌, List, slice_index, Contains}
use Rattle.plane_base.specs.declared.shapes.Pt.{Pt}
use Rattle.plane_base.specs.declared.shapes.Rect.{Rect}
use Rattle.plane_base.specs.Boxes.{HasPoint}
use Rattle.cell_grid.specs.Boxes.{IsBoxAt}
use Rattle.cell_grid.specs.Grids.{Boxes, level_at}
use Rattle.cell_grid.specs.Cells.{numbers_at, cell_of}
use Rattle.cell_grid.specs.declared.levels.Level.{Level}

-- what was found before, and, of the numbers that are looked at, those whose boxes share a point with r
pub record DoesFind (boxes : List Rect) (r : Rect) (IsLookedAt : ℕ → Type 0) (before now : List ℕ) : Type 0 where
  pub kept : (number : ℕ) → Contains before number → Contains now number
  pub found : (number : ℕ) → IsLookedAt number → IsBoxAt boxes r number → Contains now number
  pub near : (number : ℕ) → Contains now number → Contains before number ⊎ IsBoxAt boxes r number

-- a number in the cell of a point of the box
abbrev pub StandsIn : Level → List (List ℕ) → Rect → ℕ → Type 0
StandsIn level cells cut number = (p : Pt) × HasPoint cut p × Contains (numbers_at cells (cell_of level p)) number

-- a number in one of the first cells of some places
abbrev pub StandsBefore : List (List ℕ) → (ℕ → ℕ) → ℕ → ℕ → Type 0
StandsBefore cells place count number = (k : ℕ) × (k < count) × Contains (numbers_at cells (place k)) number

-- the number of a box on this level of the grid
abbrev pub IsAtLevel : Boxes → ℕ → ℕ → Type 0
IsAtLevel grid level number = level_at grid number ≡ level

-- the number of a box on one of its first levels
abbrev pub IsOnFirst : Boxes → ℕ → ℕ → Type 0
IsOnFirst grid count number = level_at grid number < count

-- one of the first numbers of a list
abbrev pub IsOneOf : List ℕ → ℕ → ℕ → Type 0
IsOneOf numbers count number = (k : ℕ) × (k < count) × (slice_index numbers k ≡ number)
