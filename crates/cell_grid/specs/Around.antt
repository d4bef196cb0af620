-- The box round all boxes. Only private functions speak of it.
use Rattle.std.specs.Prelude.{ℤ, List, All}
use Rattle.std.specs.Int.{int_max, int_min}
use Rattle.plane_base.specs.declared.shapes.Pt.{Pt}
use Rattle.plane_base.specs.declared.shapes.Rect.{Rect}
use Rattle.plane_base.specs.Boxes.{HasBox, IsOrdered}
use Rattle.cell_grid.specs.Boxes.{IsWithinSpan}

-- a box with all of them in it, which is less than `SPAN` wide and high
pub record IsAround (around : Rect) (boxes : List Rect) : Type 0 where
  pub ordered : IsOrdered around
  pub span : IsWithinSpan around around
  pub all : All (λ rect. HasBox around rect) boxes

-- its low corner
abbrev pub corner_of : Rect → Pt
corner_of rect = record { x = rect.x0; y = rect.y0 }

-- a number moved to between two others
abbrev pub between : ℤ → ℤ → ℤ → ℤ
between low high x = int_max low (int_min x high)

-- the box with its corners moved into another
abbrev pub cut_of : Rect → Rect → Rect
cut_of around r = record {
  x0 = between around.x0 around.x1 r.x0;
  y0 = between around.y0 around.y1 r.y0;
  x1 = between around.x0 around.x1 r.x1;
  y1 = between around.y0 around.y1 r.y1;
}

-- a point moved into a box
abbrev pub put_of : Rect → Pt → Pt
put_of around p = record { x = between around.x0 around.x1 p.x; y = between around.y0 around.y1 p.y }
