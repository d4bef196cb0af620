-- Answers to the goals of `Grid::levels` in src/grids.rt.
use Rattle.std.proofs.Common.{length, arith}
use Rattle.cell_grid.proofs.LevelPlaces.{grid_levels}
use Rattle.cell_grid.proofs.grids.Grid.levels.Goals as goal

pub returns-clause-each : goal.returns-clause-each
returns-clause-each c =
    let has = grid_levels (length c.self.inside.levels.items) c.self.inside.boxes.boxes c.self.inside.used.items
    c.args.self.now c.self.invariant.used c.self.view_is in
    λ n h. omega (arith, has.below n h, has.levels)
