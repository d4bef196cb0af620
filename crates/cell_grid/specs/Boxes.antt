-- Boxes of whole points, and which of a list share a point with another.
use Rattle.std.specs.Prelude.{◌↔◌, ℕ, ◌<◌, pos, ◌-ℤ◌, ◌<ℤ◌, List, length, All, Contains, slice_index_or}
use Rattle.std.specs.List.Sorted.{IsStrictlyIncreasing}
use Rattle.plane_base.specs.declared.shapes.Pt.{Pt}
use Rattle.plane_base.specs.declared.shapes.Rect.{Rect}
use Rattle.plane_base.specs.declared.shapes.TheConstants.{SPAN}
use Rattle.plane_base.specs.Boxes.{HasPoint, IsOrdered, ShareAPoint}

-- each of the boxes has a point
abbrev pub AreOrdered : List Rect → Type 0
AreOrdered boxes = All (λ rect. IsOrdered rect) boxes

-- on each axis the one begins less than `SPAN` before the end of the other
abbrev pub IsWithinSpan : Rect → Rect → Type 0
IsWithinSpan p q = ((q.x1 -ℤ p.x0) <ℤ SPAN) × ((q.y1 -ℤ p.y0) <ℤ SPAN)

-- each of them does so with each
abbrev pub AreWithinSpan : List Rect → Type 0
AreWithinSpan boxes = All (λ p. All (λ q. IsWithinSpan p q) boxes) boxes

-- ---- boxes by their numbers, from 0
-- what a number stands for that is no box's
abbrev pub no_box : Rect
no_box = record { x0 = pos 0; y0 = pos 0; x1 = pos 0; y1 = pos 0 }

abbrev pub box_at : List Rect → ℕ → Rect
box_at boxes number = slice_index_or boxes number no_box

-- the box of this number has the point
abbrev pub IsHolder : List Rect → Pt → ℕ → Type 0
IsHolder boxes p number = (number < length boxes) × HasPoint (box_at boxes number) p

-- the box of this number shares a point with r
abbrev pub IsBoxAt : List Rect → Rect → ℕ → Type 0
IsBoxAt boxes r number = (number < length boxes) × ShareAPoint (box_at boxes number) r

-- the numbers of the boxes that share a point with r, and no other numbers, each once and ascending
pub record AreBoxesAt (boxes : List Rect) (r : Rect) (numbers : List ℕ) : Type 0 where
  pub ascending : IsStrictlyIncreasing numbers
  pub exact : (number : ℕ) → Contains numbers number ↔ IsBoxAt boxes r number
