-- Boxes by how far their sides are from a low corner. Only private functions speak of it.
use Rattle.std.specs.Prelude.{◌≡◌, ℕ, ℤ, pos, ◌+ℤ◌, List}
use Rattle.plane_base.specs.declared.shapes.Pt.{Pt}
use Rattle.plane_base.specs.declared.shapes.Rect.{Rect}
use Rattle.cell_grid.specs.declared.offsets.Offsets.{Offsets}

-- boxes, and a box round all of them
pub record PlacedBoxes : Type 0 where
  pub around : Rect
  pub boxes : List Rect

-- the number that is so far past the low end is x
abbrev pub IsOffset : ℤ → ℕ → ℤ → Type 0
IsOffset low offset x = (low +ℤ pos offset) ≡ x

-- the box whose sides are so far past the low corner
abbrev pub rect_of : Pt → Offsets → Rect
rect_of low offsets = record {
  x0 = low.x +ℤ pos offsets.x0;
  y0 = low.y +ℤ pos offsets.y0;
  x1 = low.x +ℤ pos offsets.x1;
  y1 = low.y +ℤ pos offsets.y1;
}
