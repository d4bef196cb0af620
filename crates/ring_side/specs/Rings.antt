-- Rings of whole points, and their segments.
use Rattle.std.specs.Prelude.{pos, List, [], ◌∷◌, All}
use Rattle.plane_base.specs.declared.shapes.Pt.{Pt}
use Rattle.plane_base.specs.Plane.{IsNear}

-- a segment between two whole points
pub record Segment : Type 0 where
  pub from : Pt
  pub to : Pt

abbrev pub no_point : Pt
no_point = record { x = pos 0; y = pos 0 }

-- from a point to the first of some points, and from each of them to the next
abbrev pub chain : Pt → List Pt → List Segment
chain a [] = []
chain a (b ∷ ps) = record { from = a; to = b } ∷ chain b ps

-- the last of some points; where there is none, another
abbrev pub last_of : Pt → List Pt → Pt
last_of a [] = a
last_of a (b ∷ ps) = last_of b ps

-- the segments of a ring: from its last point to its first, and from each point to the next
abbrev pub segments_of : List Pt → List Segment
segments_of ring = chain (last_of no_point ring) ring

-- each of the points is near this one
abbrev pub AreNearTo : List Pt → Pt → Type 0
AreNearTo ps q = All (λ p. IsNear p q) ps

-- each two of the points are near each other
abbrev pub AreNear : List Pt → Type 0
AreNear ps = All (λ q. AreNearTo ps q) ps
