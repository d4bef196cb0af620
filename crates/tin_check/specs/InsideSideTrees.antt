-- A tree of boxes round border sides. Only private functions speak of it.
use Rattle.std.specs.Prelude.{◌≡◌, ℕ, ◌<◌, ◌≤◌, pos, ◌<ℤ◌, List, [], ◌∷◌, length}
use Rattle.plane_base.specs.declared.shapes.Pt.{Pt}
use Rattle.plane_base.specs.declared.shapes.Rect.{Rect}
use Rattle.plane_base.specs.declared.shapes.Tri.{Tri}
use Rattle.plane_base.specs.Plane.{Point, whole, turn_of, IsMix, IsNear, corners_of}
use Rattle.plane_base.specs.Boxes.{IsIn, AreIn, AreApart}
use Rattle.tin_base.specs.declared.frames.Frame.{Frame}
use Rattle.tin_base.specs.Triangulation.{Triangulation, place, corner_at, numbers_of, places}
use Rattle.tin_check.specs.declared.borders.BorderSide.{BorderSide}
use Rattle.tin_check.specs.declared.side_trees.SideTree.{SideTree}
use Rattle.tin_check.specs.declared.side_trees.SideTree.TheVariants.{Few, Parts'}
use Rattle.tin_check.specs.InsideBorders.{DoesMeet, side_at}

-- ---- a box of some sides
-- two corners of the box that are opposite to each other are near the point, and so are the other two
abbrev pub IsBoxNear : Rect → Pt → Type 0
IsBoxNear box p = IsNear (record { x = box.x0; y = box.y0 }) p × IsNear (record { x = box.x1; y = box.y1 }) p

-- the box has the ends of the sides from one number to before another, and is near all corners
pub record IsAround (tin : Triangulation) (frame : Frame) (sides : List BorderSide) (first past : ℕ) (box : Rect)
    : Type 0 where
  pub has : (k : ℕ) → first ≤ k → k < past
      → AreIn box (places tin frame ((side_at sides k).from ∷ (side_at sides k).to ∷ []))
  pub near : (n : ℕ) (p : Pt) → n < length tin.corners → whole p ≡ place frame (corner_at tin n) → IsBoxNear box p

-- ---- a tree
abbrev pub around_of : SideTree → Rect
around_of (Few around first past) = around
around_of (Parts' around x low y high) = around

abbrev pub first_of : SideTree → ℕ
first_of (Few around first past) = first
first_of (Parts' around x low y high) = first_of low

abbrev pub past_of : SideTree → ℕ
past_of (Few around first past) = past
past_of (Parts' around x low y high) = past_of high

-- each box is round the sides of its part, and of two parts the one ends where the other begins
abbrev pub IsTree : Triangulation → Frame → List BorderSide → SideTree → Type 0
IsTree tin frame sides (Few around first past) = (past ≤ length sides) × IsAround tin frame sides first past around
IsTree tin frame sides (Parts' around x low y high) = IsTree tin frame sides low × IsTree tin frame sides high
    × (past_of low ≡ first_of high) × IsAround tin frame sides (first_of low) (past_of high) around

-- ---- a triangle and a box
-- no place of the box is in the triangle
abbrev pub AreClear : Tri → Rect → Type 0
AreClear t box = (x : Point) → pos 0 <ℤ x.w → IsMix x (corners_of t) → IsIn box x → ⊥

-- each place of the box is to the right of the line from p to q
abbrev pub IsRight : Point → Point → Rect → Type 0
IsRight p q box = (x : Point) → pos 0 <ℤ x.w → IsIn box x → turn_of p q x <ℤ pos 0

-- the triangle's corners are near those of the box
abbrev pub IsNearBox : Tri → Rect → Type 0
IsNearBox t box = IsBoxNear box t.a × IsBoxNear box t.b × IsBoxNear box t.c

-- the sides from one number to before another meet the triangle in a common corner at most, or are its own
abbrev pub DoMeetFrom : Triangulation → Frame → List BorderSide → ℕ → ℕ → ℕ → Type 0
DoMeetFrom tin frame sides triangle first past = (k : ℕ) → first ≤ k → k < past
    → DoesMeet tin frame (side_at sides k) triangle

-- each of these sides is in some box that is apart from this one
abbrev pub AreFar : Triangulation → Frame → List BorderSide → Rect → ℕ → ℕ → Type 0
AreFar tin frame sides map first past = (k : ℕ) → first ≤ k → k < past → (box : Rect)
    × AreIn box (places tin frame ((side_at sides k).from ∷ (side_at sides k).to ∷ [])) × AreApart map box

-- the box has the corners of the triangles from one number to before another
abbrev pub AreTrianglesIn : Triangulation → Frame → ℕ → ℕ → Rect → Type 0
AreTrianglesIn tin frame first past box = (t : ℕ) → first ≤ t → t < past → AreIn box (places tin frame (numbers_of tin t))

-- the triangles from one number to before another do so
abbrev pub DoSomeMeet : Triangulation → Frame → List BorderSide → ℕ → ℕ → ℕ → ℕ → Type 0
DoSomeMeet tin frame sides first past low high = (t : ℕ) → low ≤ t → t < high → DoMeetFrom tin frame sides t first past

-- so does each triangle
abbrev pub DoAllMeet : Triangulation → Frame → List BorderSide → ℕ → ℕ → Type 0
DoAllMeet tin frame sides first past = (t : ℕ) → t < length tin.triangles → DoMeetFrom tin frame sides t first past
