-- Segments in the source frame: their points, and the pieces into which the triangles cut them.
use Rattle.std.specs.Prelude.{◌≡◌, ◌≢◌, ℕ, ◌+◌, ◌*◌, ◌<◌, ◌≤◌, pos, ◌<ℤ◌, List, [], ◌∷◌, length, slice_index_or}
use Rattle.plane_base.specs.Plane.{Point, IsMix, whole, weighted_sum}
use Rattle.plane_base.specs.declared.shapes.Pt.{Pt}
use Rattle.tin_base.specs.declared.frames.Frame.TheVariants.{Source}
use Rattle.tin_base.specs.Triangulation.{Triangulation, IsInTriangle}
use Rattle.tin_base.specs.Images.{IsInSome}

-- each point of the segment from a to b is in some source triangle
abbrev pub IsInside : Triangulation → Pt → Pt → Type 0
IsInside tin a b = (p : Point) → pos 0 <ℤ p.w → IsMix p (whole a ∷ whole b ∷ []) → IsInSome tin Source p

-- a point of a segment, by the weights of the segment's ends
pub record Spot : Type 0 where
  pub of_a : ℕ
  pub of_b : ℕ

-- the point of a spot
abbrev pub spot_at : Pt → Pt → Spot → Point
spot_at a b s = weighted_sum (s.of_a ∷ s.of_b ∷ []) (whole a ∷ whole b ∷ [])

-- the first end
abbrev pub at_a : Spot
at_a = record { of_a = 1; of_b = 0 }

-- the last end
abbrev pub at_b : Spot
at_b = record { of_a = 0; of_b = 1 }

-- the order from a to b: the share of b grows
abbrev pub IsBefore : Spot → Spot → Type 0
IsBefore s t = s.of_b * t.of_a < t.of_b * s.of_a

-- the first spot is before the second, or they are at one place
abbrev pub IsNotAfter : Spot → Spot → Type 0
IsNotAfter s t = s.of_b * t.of_a ≤ t.of_b * s.of_a

-- the spots are at one place
abbrev pub IsSameSpot : Spot → Spot → Type 0
IsSameSpot s t = s.of_b * t.of_a ≡ t.of_b * s.of_a

-- the spot is one of the segment, and its point is in triangle t
pub record IsShared (tin : Triangulation) (a b : Pt) (t : ℕ) (s : Spot) : Type 0 where
  pub some : 0 < s.of_a + s.of_b
  pub inside : IsInTriangle tin Source t (spot_at a b s)

-- the part of triangle t: its first and its last spot, which differ
pub record IsPart (tin : Triangulation) (a b : Pt) (t : ℕ) (first last : Spot) : Type 0 where
  pub in_range : t < length tin.triangles
  pub has_first : IsShared tin a b t first
  pub has_last : IsShared tin a b t last
  pub differ : IsBefore first last
  pub none_before : (s : Spot) → IsShared tin a b t s → IsNotAfter first s
  pub none_after : (s : Spot) → IsShared tin a b t s → IsNotAfter s last

-- a triangle with its first and its last spot
pub record Part : Type 0 where
  pub triangle : ℕ
  pub first : Spot
  pub last : Spot

-- what a number stands for that is no part's
abbrev pub no_part : Part
no_part = record { triangle = 0; first = at_a; last = at_a }

-- the i-th part
abbrev pub part_at : List Part → ℕ → Part
part_at parts i = slice_index_or parts i no_part

-- the pieces of a segment of two different ends: every part once, with the least triangle that has it, in order from a
-- to b
pub record ArePieces (tin : Triangulation) (a b : Pt) (parts : List Part) : Type 0 where
  pub part : (i : ℕ) → i < length parts → IsPart tin a b (part_at parts i).triangle (part_at parts i).first
      (part_at parts i).last
  pub least : (i u : ℕ) → i < length parts → u < (part_at parts i).triangle
      → IsPart tin a b u (part_at parts i).first (part_at parts i).last → ⊥
  pub every : (t : ℕ) (first last : Spot) → IsPart tin a b t first last
      → (i : ℕ) × (i < length parts) × IsSameSpot (part_at parts i).first first × IsSameSpot (part_at parts i).last last
  pub in_order : (i j : ℕ) → i < j → j < length parts → IsBefore (part_at parts i).first (part_at parts j).first

-- the pieces of a segment from a point to itself: the point, with the least triangle that has it, or none where no
-- triangle has it
abbrev pub ArePiecesAt : Triangulation → Pt → List Part → Type 0
ArePiecesAt tin a [] = IsInSome tin Source (whole a) → ⊥
ArePiecesAt tin a (part ∷ []) =
    (part.triangle < length tin.triangles) × IsInTriangle tin Source part.triangle (whole a)
    × ((u : ℕ) → u < part.triangle → IsInTriangle tin Source u (whole a) → ⊥) × (part.first ≡ at_a)
    × (part.last ≡ at_a)
ArePiecesAt tin a parts = ⊥

-- the pieces of any segment
abbrev pub ArePiecesOf : Triangulation → Pt → Pt → List Part → Type 0
ArePiecesOf tin a b parts = (a ≡ b → ArePiecesAt tin a parts) × (a ≢ b → ArePieces tin a b parts)

-- the parts follow each other from a to b without a gap
pub record AreChain (parts : List Part) : Type 0 where
  pub some : 0 < length parts
  pub begins : IsSameSpot (part_at parts 0).first at_a
  pub joined : (i : ℕ) → i + 1 < length parts → IsSameSpot (part_at parts i).last (part_at parts (i + 1)).first
  pub ends : (i : ℕ) → i + 1 ≡ length parts → IsSameSpot (part_at parts i).last at_b

-- each spot of the segment is in some part
abbrev pub DoCover : List Part → Type 0
DoCover parts = (s : Spot) → 0 < s.of_a + s.of_b
    → (i : ℕ) × (i < length parts) × IsNotAfter (part_at parts i).first s × IsNotAfter s (part_at parts i).last
