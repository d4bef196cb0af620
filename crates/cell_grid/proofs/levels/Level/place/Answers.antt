-- Answers to the goals of `Level::place` in src/levels.rt.
use Rattle.std.proofs.Common.{refl}
use Rattle.cell_grid.specs.Cells.{place_of}
use Rattle.cell_grid.proofs.levels.Level.place.Goals as goal

pub returns-clause-place : goal.returns-clause-place
unfolding place_of
returns-clause-place c = refl
