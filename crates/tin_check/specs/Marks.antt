-- Corners that are marked, and triangles counted from another corner.
use Rattle.std.specs.Prelude.{◌≡◌, ◌⊎◌, ◌↔◌, Bool, cond, List, [], ◌∷◌, ◌++◌, length}
use Rattle.plane_base.specs.Plane.{IsNear}
use Rattle.plane_base.specs.declared.shapes.Pt.{Pt}
use Rattle.plane_base.specs.declared.shapes.Tri.{Tri}
use Rattle.tin_check.specs.declared.marked_corners.Marked.{Marked}
use Rattle.tin_check.specs.declared.marked_corners.Marked.TheVariants.{Nothing, Corner, Side, All}

-- the three corners
abbrev pub points_of : Tri → List Pt
points_of t = t.a ∷ t.b ∷ t.c ∷ []

-- the points that are marked
abbrev pub marked_of : List Bool → List Pt → List Pt
marked_of [] points = []
marked_of (mark ∷ marks) [] = []
marked_of (mark ∷ marks) (p ∷ points) = cond mark (p ∷ marked_of marks points) (marked_of marks points)

-- p is one of the points
abbrev pub IsAmong : List Pt → Pt → Type 0
IsAmong [] p = ⊥
IsAmong (q ∷ points) p = (p ≡ q) ⊎ IsAmong points p

-- the same points, in any order
abbrev pub HaveSamePoints : List Pt → List Pt → Type 0
HaveSamePoints ps qs = (p : Pt) → IsAmong ps p ↔ IsAmong qs p

-- every two of the points are near each other
abbrev pub AreNear : List Pt → Type 0
AreNear points = (p q : Pt) → IsAmong points p → IsAmong points q → IsNear p q

-- all corners of two triangles are near each other
abbrev pub AreNearTris : Tri → Tri → Type 0
AreNearTris t u = AreNear (points_of t ++ points_of u)

-- the triangle, counted from its second corner on
abbrev pub next_of : Tri → Tri
next_of t = record { a = t.b; b = t.c; c = t.a }

-- the triangle, counted from one of its corners on
abbrev pub IsCounted : Tri → Tri → Type 0
IsCounted t r = (r ≡ t) ⊎ ((r ≡ next_of t) ⊎ (r ≡ next_of (next_of t)))

-- how many corners are marked, and the triangle counted so that these come first
abbrev pub IsMarked : List Pt → Tri → Marked → Type 0
IsMarked points t Nothing = points ≡ []
IsMarked points t (Corner r) = IsCounted t r × (points ≡ r.a ∷ [])
IsMarked points t (Side r) = IsCounted t r × ((points ≡ r.a ∷ r.b ∷ []) ⊎ (points ≡ r.b ∷ r.a ∷ []))
IsMarked points t All = length points ≡ 3
