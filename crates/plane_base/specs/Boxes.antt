-- Boxes of the plane, with sides along the axes and whole numbers: the points that one has, the least box that has some
-- points, and boxes apart.
use Rattle.std.specs.Prelude.{◌⊎◌, ◌↔◌, ◌*ℤ◌, ◌≤ℤ◌, ◌<ℤ◌, List, [], ◌∷◌}
use Rattle.std.specs.Int.{int_min, int_max}
use Rattle.plane_base.specs.declared.shapes.Pt.{Pt}
use Rattle.plane_base.specs.declared.shapes.Tri.{Tri}
use Rattle.plane_base.specs.declared.shapes.Rect.{Rect}
use Rattle.plane_base.specs.Plane.{Point}

-- ---- what is in a box
-- the box has the whole point, its border included
pub record HasPoint (rect : Rect) (p : Pt) : Type 0 where
  pub left : rect.x0 ≤ℤ p.x
  pub right : p.x ≤ℤ rect.x1
  pub bottom : rect.y0 ≤ℤ p.y
  pub top : p.y ≤ℤ rect.y1

-- the place is in the box, its border included
pub record IsIn (box : Rect) (r : Point) : Type 0 where
  pub left : (box.x0 *ℤ r.w) ≤ℤ r.x
  pub right : r.x ≤ℤ (box.x1 *ℤ r.w)
  pub bottom : (box.y0 *ℤ r.w) ≤ℤ r.y
  pub top : r.y ≤ℤ (box.y1 *ℤ r.w)

-- the places are in the box
abbrev pub AreIn : Rect → List Point → Type 0
AreIn box [] = Unit {0}
AreIn box (p ∷ ps) = IsIn box p × AreIn box ps

-- the outer box has the inner one in it
pub record HasBox (outer inner : Rect) : Type 0 where
  pub left : outer.x0 ≤ℤ inner.x0
  pub right : inner.x1 ≤ℤ outer.x1
  pub bottom : outer.y0 ≤ℤ inner.y0
  pub top : inner.y1 ≤ℤ outer.y1

-- the box has a point: neither end is below the other one's beginning
abbrev pub IsOrdered : Rect → Type 0
IsOrdered rect = (rect.x0 ≤ℤ rect.x1) × (rect.y0 ≤ℤ rect.y1)

-- ---- the least box that has some points
-- the box of one point
abbrev pub box_of_point : Pt → Rect
box_of_point p = record { x0 = p.x; y0 = p.y; x1 = p.x; y1 = p.y }

-- the box of two points, and of their segment
abbrev pub box_of_segment : Pt → Pt → Rect
box_of_segment a b = record { x0 = int_min a.x b.x; y0 = int_min a.y b.y; x1 = int_max a.x b.x; y1 = int_max a.y b.y }

-- the box of a triangle
abbrev pub box_of_triangle : Tri → Rect
box_of_triangle t = record {
  x0 = int_min t.a.x (int_min t.b.x t.c.x);
  y0 = int_min t.a.y (int_min t.b.y t.c.y);
  x1 = int_max t.a.x (int_max t.b.x t.c.x);
  y1 = int_max t.a.y (int_max t.b.y t.c.y);
}

-- the least box that has a box and one more point
abbrev pub box_with_point : Rect → Pt → Rect
box_with_point rect p = record {
  x0 = int_min rect.x0 p.x;
  y0 = int_min rect.y0 p.y;
  x1 = int_max rect.x1 p.x;
  y1 =
      int_max rect.y1 p.y;
}

-- the least box that has two boxes
abbrev pub box_of_boxes : Rect → Rect → Rect
box_of_boxes p q = record { x0 = int_min p.x0 q.x0; y0 = int_min p.y0 q.y0; x1 = int_max p.x1 q.x1; y1 = int_max p.y1 q.y1 }

-- the points that two boxes have in common; it is not ordered where they are apart
abbrev pub common_of : Rect → Rect → Rect
common_of p q = record {
  x0 = int_max p.x0 q.x0;
  y0 = int_max p.y0 q.y0;
  x1 = int_min p.x1 q.x1;
  y1 =
      int_min p.y1 q.y1;
}

-- ---- two boxes
-- a whole point is in both
abbrev pub ShareAPoint : Rect → Rect → Type 0
ShareAPoint p q = (point : Pt) × HasPoint p point × HasPoint q point

-- on one of the axes the one is past the other
abbrev pub AreApart : Rect → Rect → Type 0
AreApart p q = ((p.x1 <ℤ q.x0) ⊎ (q.x1 <ℤ p.x0)) ⊎ ((p.y1 <ℤ q.y0) ⊎ (q.y1 <ℤ p.y0))

-- two boxes are apart exactly where they share no point, and share one exactly where they are not apart
pub record AreEither (p q : Rect) : Type 0 where
  pub apart : AreApart p q ↔ (¬ ShareAPoint p q)
  pub shared : ShareAPoint p q ↔ (¬ AreApart p q)

abbrev pub ShareAPointOrAreApart : Type 0
ShareAPointOrAreApart = (p q : Rect) → IsOrdered p → IsOrdered q → AreEither p q
