-- The box of a triangle: from the least to the greatest of its corners' numbers, on each axis.
use Rattle.std.specs.Prelude.{◌≡◌, ℕ, ◌<◌, ℤ, ◌≤ℤ◌, List, length}
use Rattle.std.specs.Int.{int_min, int_max}
use Rattle.plane_base.specs.Plane.{corners_of, IsNear}
use Rattle.plane_base.specs.declared.shapes.Pt.{Pt}
use Rattle.plane_base.specs.declared.shapes.Rect.{Rect}
use Rattle.plane_base.specs.declared.shapes.Tri.{Tri}
use Rattle.plane_base.specs.Boxes.{HasPoint, box_of_triangle}
use Rattle.cell_grid.specs.Boxes.{box_at}
use Rattle.tin_base.specs.declared.frames.Frame.TheVariants.{Source}
use Rattle.tin_base.specs.Triangulation.{Triangulation, x_in, y_in, corner_at, numbers_of, places}

-- on neither axis is the second point below the first
abbrev pub IsUpTo : Pt → Pt → Type 0
IsUpTo p q = (p.x ≤ℤ q.x) × (p.y ≤ℤ q.y)

-- the corner of the box with the least numbers
abbrev pub low_of : Tri → Pt
low_of t = record { x = int_min t.a.x (int_min t.b.x t.c.x); y = int_min t.a.y (int_min t.b.y t.c.y) }

-- the corner of the box with the greatest numbers
abbrev pub high_of : Tri → Pt
high_of t = record { x = int_max t.a.x (int_max t.b.x t.c.x); y = int_max t.a.y (int_max t.b.y t.c.y) }

-- the rectangle is the box of the source triangle, wherever that is
pub record IsBoxOf (tin : Triangulation) (t : ℕ) (rect : Rect) : Type 0 where
  pub tri : Tri
  pub stands : corners_of tri ≡ places tin Source (numbers_of tin t)
  pub same : rect ≡ box_of_triangle tri

-- the boxes of the first `n` source triangles, in order
pub record AreBoxesOf (tin : Triangulation) (n : ℕ) (boxes : List Rect) : Type 0 where
  pub count : length boxes ≡ n
  pub each : (t : ℕ) → t < n → IsBoxOf tin t (box_at boxes t)

-- ---- all corners
-- where a corner is in the source frame
abbrev pub source_at : Triangulation → ℕ → Pt
source_at tin n = record { x = x_in Source (corner_at tin n); y = y_in Source (corner_at tin n) }

-- the point is near each corner
abbrev pub IsNearCorners : Triangulation → Pt → Type 0
IsNearCorners tin p = (n : ℕ) → n < length tin.corners → IsNear (source_at tin n) p

-- it is the number of one of the first `n` corners
abbrev pub IsOfOne : (Pt → ℤ) → Triangulation → ℕ → ℤ → Type 0
IsOfOne number tin n z = (k : ℕ) × (k < n) × (z ≡ number (source_at tin k))

-- the least box that has the first `n` corners
pub record IsRound (tin : Triangulation) (n : ℕ) (rect : Rect) : Type 0 where
  pub has : (k : ℕ) → k < n → HasPoint rect (source_at tin k)
  pub left : 0 < n → IsOfOne (λ p. p.x) tin n rect.x0
  pub right : 0 < n → IsOfOne (λ p. p.x) tin n rect.x1
  pub bottom : 0 < n → IsOfOne (λ p. p.y) tin n rect.y0
  pub top : 0 < n → IsOfOne (λ p. p.y) tin n rect.y1
