-- Answers to the goals of `Block::place_at` in src/blocks.rt.
use Rattle.cell_grid.proofs.blocks.Block.place_at.Goals as goal

pub returns-clause-place : goal.returns-clause-place
returns-clause-place c = rw (← c.cell_at-cell.ensures.column, ← c.cell_at-cell.ensures.row) c.place.ensures.place
