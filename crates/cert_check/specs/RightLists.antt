-- Lists of triangles that are right for a segment.
use Rattle.std.specs.Prelude.{◌≡◌, ◌≢◌, ℕ, ◌<◌, List, [], ◌∷◌, length}
use Rattle.plane_base.specs.Plane.{whole}
use Rattle.plane_base.specs.declared.shapes.Pt.{Pt}
use Rattle.tin_base.specs.declared.frames.Frame.TheVariants.{Source}
use Rattle.tin_base.specs.Triangulation.{Triangulation, IsInTriangle}
use Rattle.tin_base.specs.Segments.{Spot, at_a, at_b, IsSameSpot, IsPart}
use Rattle.sheet_pieces.specs.SheetSegments.{SheetSegment}

-- from a spot of the segment from a to b on, the triangles' parts follow each other without a gap. The first begins at
-- the spot, each other one where the one before it ends, and the last ends at b. A part has two different ends
abbrev pub AreFollowing : Triangulation → Pt → Pt → Spot → List ℕ → Type 0
AreFollowing tin a b x [] = IsSameSpot x at_b
AreFollowing tin a b x (t ∷ ts) = (first : Spot) × (last : Spot) × IsPart tin a b t first last × IsSameSpot first x
    × AreFollowing tin a b last ts

-- the list is one triangle that has the point
abbrev pub IsOneWith : Triangulation → Pt → List ℕ → Type 0
IsOneWith tin a [] = ⊥
IsOneWith tin a (t ∷ []) = (t < length tin.triangles) × IsInTriangle tin Source t (whole a)
IsOneWith tin a (t ∷ u ∷ ts) = ⊥

-- the list is right for the segment
abbrev pub IsRightList : Triangulation → Pt → Pt → List ℕ → Type 0
IsRightList tin a b numbers = (a ≡ b → IsOneWith tin a numbers) × (a ≢ b → AreFollowing tin a b at_a numbers)

-- one list for each segment, right for it
abbrev pub AreRightLists : Triangulation → List SheetSegment → List (List ℕ) → Type 0
AreRightLists tin [] [] = Unit {0}
AreRightLists tin [] (list ∷ lists) = ⊥
AreRightLists tin (segment ∷ segments) [] = ⊥
AreRightLists tin (segment ∷ segments) (list ∷ lists) =
    IsRightList tin segment.a segment.b list × AreRightLists tin segments lists
