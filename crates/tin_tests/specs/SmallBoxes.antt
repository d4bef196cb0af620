-- Boxes near the origin, as the tests take them.
use Rattle.std.specs.Prelude.{pos, negsuc, ◌≤ℤ◌}
use Rattle.plane_base.specs.declared.shapes.Rect.{Rect}
use Rattle.plane_base.specs.Boxes.{IsOrdered}

-- ordered, and not more than a hundred kilometres from 0
pub record IsSmall (rect : Rect) : Type 0 where
  pub ordered : IsOrdered rect
  pub left : negsuc 99999999 ≤ℤ rect.x0
  pub right : rect.x1 ≤ℤ pos 100000000
  pub bottom : negsuc 99999999 ≤ℤ rect.y0
  pub top : rect.y1 ≤ℤ pos 100000000
