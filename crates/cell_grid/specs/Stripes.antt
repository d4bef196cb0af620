-- Stripes of one width from a low end on. Only private functions speak of it.
use Rattle.std.specs.Prelude.{ℕ, ◌/◌, ◌^◌, ℤ, ◌-ℤ◌, ◌≤ℤ◌, ◌<ℤ◌, unsigned_abs}
use Rattle.plane_base.specs.declared.shapes.Pt.{Pt}
use Rattle.plane_base.specs.declared.shapes.Rect.{Rect}
use Rattle.plane_base.specs.declared.shapes.TheConstants.{SPAN}
use Rattle.plane_base.specs.Boxes.{IsOrdered}

-- x is not before the low end, and less than `SPAN` after it
abbrev pub IsPast : ℤ → ℤ → Type 0
IsPast low x = (low ≤ℤ x) × ((x -ℤ low) <ℤ SPAN)

-- all of the box is so on both axes
pub record IsPastCorner (low : Pt) (rect : Rect) : Type 0 where
  pub ordered : IsOrdered rect
  pub left : IsPast low.x rect.x0
  pub right : IsPast low.x rect.x1
  pub bottom : IsPast low.y rect.y0
  pub top : IsPast low.y rect.y1

-- the number of the stripe that has x, where stripes of two to the power of `shift` begin at `low`
unfoldable pub stripe_of : ℤ → ℕ → ℤ → ℕ
stripe_of low shift x = unsigned_abs (x -ℤ low) / 2 ^ shift
