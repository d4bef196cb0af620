-- The cells that a box meets, row after row. Only private functions speak of it.
use Rattle.std.specs.Prelude.{◌≡◌, ℕ, ◌+◌, ◌-◌, ◌*◌, ◌/◌, ◌%◌}
use Rattle.plane_base.specs.declared.shapes.Pt.{Pt}
use Rattle.plane_base.specs.declared.shapes.Rect.{Rect}
use Rattle.cell_grid.specs.Cells.{column_of, row_of, place_of}
use Rattle.cell_grid.specs.declared.levels.Level.{Level}
use Rattle.cell_grid.specs.declared.blocks.Block.{Block}

-- the block goes from the cell of the box's low corner to that of its high corner
pub record IsBlockOf (level : Level) (rect : Rect) (block : Block) : Type 0 where
  pub column : block.column ≡ column_of level rect.x0
  pub row : block.row ≡ row_of level rect.y0
  pub columns : block.column + block.columns ≡ column_of level rect.x1 + 1
  pub rows : block.row + block.rows ≡ row_of level rect.y1 + 1

-- the place of one of its cells, from 0
abbrev pub place_at : Level → Block → ℕ → ℕ
place_at level block index = place_of level (block.column + index % block.columns) (block.row + index / block.columns)

-- which of its cells has the point
abbrev pub index_of : Level → Block → Pt → ℕ
index_of level block p = (row_of level p.y - block.row) * block.columns + (column_of level p.x - block.column)
