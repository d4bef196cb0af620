-- A point of a box is in one of the cells that the box meets.
use Rattle.std.proofs.Common.{◌≡◌, ℕ, ◌+◌, ◌-◌, ◌*◌, ◌/◌, ◌%◌, ◌^◌, ◌<◌, ◌≤◌, refl, arith}
use Rattle.std.proofs.lemmas.Int.{ints}
use Rattle.std.proofs.lemmas.Nat.{mul-add-lt, same_from_place, div-add-mod', mod_below}
use Rattle.plane_base.specs.declared.shapes.Pt.{Pt}
use Rattle.plane_base.specs.declared.shapes.Rect.{Rect}
use Rattle.plane_base.specs.Boxes.{HasPoint}
use Rattle.cell_grid.specs.InsideSizes.{longer_side}
use Rattle.cell_grid.specs.Stripes.{IsPastCorner}
use Rattle.cell_grid.specs.Cells.{column_of, row_of, cell_of}
use Rattle.cell_grid.specs.InsideBlocks.{IsBlockOf, place_at, index_of}
use Rattle.cell_grid.specs.declared.levels.Level.{Level}
use Rattle.cell_grid.specs.declared.blocks.Block.{Block}
use Rattle.cell_grid.proofs.Stripes.{stripe_up, stripe_next}

-- ---- rows and columns
pub record IsIn (block : Block) (column row : ℕ) : Type 0 where
  pub left : block.column ≤ column
  pub right : column < block.column + block.columns
  pub bottom : block.row ≤ row
  pub top : row < block.row + block.rows

pub point_in : (level : Level) (rect : Rect) (block : Block) (p : Pt) → IsPastCorner level.low rect
    → IsBlockOf level rect block → HasPoint rect p → IsIn block (column_of level p.x) (row_of level p.y)
point_in level rect block p past is has =
    record {
      left = rw is.column (stripe_up level.low.x level.shift rect.x0 p.x past.left.0 has.left);
      right = omega (
        arith,
        is.columns,
        stripe_up level.low.x level.shift p.x rect.x1
            (omega (arith, ints, past.left.0, has.left)) has.right,
      );
      bottom = rw is.row (stripe_up level.low.y level.shift rect.y0 p.y past.bottom.0 has.bottom);
      top = omega (
        arith,
        is.rows,
        stripe_up level.low.y level.shift p.y rect.y1
            (omega (arith, ints, past.bottom.0, has.bottom)) has.top,
      );
    }

abbrev pub index_at : Block → ℕ → ℕ → ℕ
index_at block column row = (row - block.row) * block.columns + (column - block.column)

index_below : (block : Block) (column row : ℕ) → IsIn block column row
    → index_at block column row < block.columns * block.rows
index_below block column row is = mul-add-lt (row - block.row) block.columns (column - block.column) block.rows
    (omega (arith, is.bottom, is.top)) (omega (arith, is.left, is.right))

pub index_parts : (block : Block) (column row : ℕ) → IsIn block column row
    → (index_at block column row / block.columns ≡ row - block.row)
    × (index_at block column row % block.columns ≡ column - block.column)
index_parts block column row is =
    let some : 0 < block.columns = omega (arith, is.left, is.right) in
    let i = index_at block column row in
    same_from_place (i / block.columns) (i % block.columns) (row - block.row) (column - block.column) block.columns
    (mod_below i block.columns some) (omega (arith, is.left, is.right)) (div-add-mod' i block.columns)

-- ---- the index of a point
pub index_within : (level : Level) (rect : Rect) (block : Block) (p : Pt) → IsPastCorner level.low rect
    → IsBlockOf level rect block → HasPoint rect p → index_of level block p < block.columns * block.rows
index_within level rect block p past is has =
    index_below block (column_of level p.x) (row_of level p.y) (point_in level rect block p past is has)

-- is of the cell of the point
pub place_there : (level : Level) (rect : Rect) (block : Block) (p : Pt) → IsPastCorner level.low rect
    → IsBlockOf level rect block → HasPoint rect p → place_at level block (index_of level block p) ≡ cell_of level p
place_there level rect block p past is has =
    let inside = point_in level rect block p past is has in
    let parts = index_parts block (column_of level p.x) (row_of level p.y) inside in
    let column : block.column + index_of level block p % block.columns ≡ column_of level p.x =
    omega (arith, parts.1, inside.left) in
    let row : block.row + index_of level block p / block.columns ≡ row_of level p.y =
    omega (arith, parts.0, inside.bottom) in
    rw (column, row) refl

-- ---- a small box
two_by_two : (m n : ℕ) → m ≤ 2 → n ≤ 2 → m * n ≤ 4
two_by_two m n a b = grind arith

pub few : (level : Level) (rect : Rect) (block : Block) → IsPastCorner level.low rect → IsBlockOf level rect block
    → longer_side rect < 2 ^ level.shift → block.columns * block.rows ≤ 4
few level rect block past is small =
    let wide = stripe_next level.low.x level.shift rect.x0 rect.x1 past.left.0 past.ordered.0 (omega arith) in
    let high = stripe_next level.low.y level.shift rect.y0 rect.y1 past.bottom.0 past.ordered.1 (omega arith) in
    two_by_two block.columns block.rows (omega (arith, is.column, is.columns)) (omega (arith, is.row, is.rows))
