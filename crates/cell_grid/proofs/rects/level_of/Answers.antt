-- Answers to the goals of `level_of` in src/rects.rt.
use Rattle.std.proofs.Common.{refl}
use Rattle.cell_grid.specs.InsideSizes.{level_of}
use Rattle.cell_grid.proofs.rects.level_of.Goals as goal

pub returns-clause-level : goal.returns-clause-level
unfolding level_of
returns-clause-level c = rw (← c.longer_side.ensures) refl
