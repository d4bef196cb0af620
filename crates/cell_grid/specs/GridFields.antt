-- What the fields of a grid keep. Only its own functions see them.
use Rattle.std.specs.Prelude.{◌≡◌, ◌<◌, length, All}
use Rattle.cell_grid.specs.Boxes.{AreOrdered}
use Rattle.cell_grid.specs.Grids.{Boxes}
use Rattle.cell_grid.specs.InsideSizes.{AreOfLevels, AreUsed, grid_of}
use Rattle.cell_grid.specs.Cells.{IsLevelOf, DoAscend, HasNumbersBelow}
use Rattle.cell_grid.specs.LevelLists.{AreLaid}
use Rattle.cell_grid.specs.Around.{IsAround, corner_of}
use Rattle.cell_grid.specs.declared.grids.Grid.TheInside.{Inside}
use Rattle.cell_grid.specs.declared.grids.TheConstants.{LIMIT}

abbrev pub view_of : Inside → Boxes
view_of grid = grid_of grid.boxes.boxes grid.used.items

pub record HasInvariant (grid : Inside) : Type 0 where
  pub ordered : AreOrdered grid.boxes.boxes
  pub count : length grid.boxes.boxes < LIMIT
  pub around : IsAround grid.boxes.around grid.boxes.boxes
  pub of_levels : AreOfLevels (length grid.levels.items) grid.boxes.boxes
  pub used : AreUsed (length grid.levels.items) grid.boxes.boxes grid.used.items
  pub laid : AreLaid grid.levels.items
  pub low : All (λ level. level.low ≡ corner_of grid.boxes.around) grid.levels.items
  pub levels : All (λ level. IsLevelOf grid.boxes.boxes grid.cells level) grid.levels.items
  pub ascending : DoAscend grid.cells
  pub numbers : HasNumbersBelow (length grid.boxes.boxes) grid.cells
