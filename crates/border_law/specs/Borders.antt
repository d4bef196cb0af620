-- The sides of triangles by the numbers of their ends, the border of a triangulation, and what is asked of it.
use Rattle.std.specs.Prelude.{◌≡◌, ◌≢◌, ◌⊎◌, ℕ, ◌<◌, ◌≤◌, pos, ◌<ℤ◌, List, [], ◌∷◌, length, Option, Some, None}
use Rattle.plane_base.specs.Plane.{Point, IsMix}
use Rattle.tin_base.specs.declared.frames.Frame.{Frame}
use Rattle.tin_base.specs.Triangulation.{Triangulation, numbers_of, places, IsInTriangle}
use Rattle.tin_base.specs.Soundness.{turn_in, common, DoFit, IsSound}

-- the three numbers of a triangle, from i on: i, j and k in its direction
abbrev pub IsFrom : List ℕ → ℕ → ℕ → ℕ → Type 0
IsFrom ns i j k = (ns ≡ i ∷ j ∷ k ∷ []) ⊎ ((ns ≡ k ∷ i ∷ j ∷ []) ⊎ (ns ≡ j ∷ k ∷ i ∷ []))

-- the triangle of these numbers has the side from i to j
abbrev pub HasSide : List ℕ → ℕ → ℕ → Type 0
HasSide ns i j = (k : ℕ) × IsFrom ns i j k

-- triangle t of the triangulation has the side from i to j
abbrev pub IsSide : Triangulation → ℕ → ℕ → ℕ → Type 0
IsSide tin t i j = (t < length tin.triangles) × HasSide (numbers_of tin t) i j

-- for the side from i to j of triangle t the triangle whose side it is joined with, or none
abbrev pub Mates : Type 0
Mates = ℕ → ℕ → ℕ → Option ℕ

-- a side from i to j is joined with a side from j to i, and this with no other
pub record IsMatching (tin : Triangulation) (mate : Mates) : Type 0 where
  pub opposite : (t u i j : ℕ) → IsSide tin t i j → mate t i j ≡ Some u → IsSide tin u j i
  pub back : (t u i j : ℕ) → IsSide tin t i j → mate t i j ≡ Some u → mate u j i ≡ Some t

-- a side that is joined with none
abbrev pub IsBorder : Triangulation → Mates → ℕ → ℕ → ℕ → Type 0
IsBorder tin mate t i j = IsSide tin t i j × (mate t i j ≡ None)

-- the numbers of the corners that the side from i to j and triangle u have in common
abbrev pub common_with_side : Triangulation → ℕ → ℕ → ℕ → List ℕ
common_with_side tin i j u = common (i ∷ j ∷ []) (numbers_of tin u)

-- the side from i to j and triangle u have one corner in common at most, and each point of both is there
pub record MeetAtCorner (tin : Triangulation) (frame : Frame) (i j u : ℕ) : Type 0 where
  pub one : length (common_with_side tin i j u) ≤ 1
  pub meet : (p : Point) → pos 0 <ℤ p.w → IsMix p (places tin frame (i ∷ j ∷ [])) → IsInTriangle tin frame u p
      → IsMix p (places tin frame (common_with_side tin i j u))

-- in a frame no triangle is flat or turned over, sides are joined by a matching, and each border side meets every other
-- triangle in a common corner at most
pub record IsBordered (tin : Triangulation) (mate : Mates) (frame : Frame) : Type 0 where
  pub positive : (t : ℕ) → t < length tin.triangles → pos 0 <ℤ turn_in tin frame t
  pub matching : IsMatching tin mate
  pub border : (t u i j : ℕ) → t ≢ u → u < length tin.triangles → IsBorder tin mate t i j → MeetAtCorner tin frame i j u

-- then any two triangles fit together in the frame
abbrev pub BorderedTrianglesFit : Type 0
BorderedTrianglesFit = (tin : Triangulation) (mate : Mates) (frame : Frame) → IsBordered tin mate frame
    → (t u : ℕ) → t ≢ u → t < length tin.triangles → u < length tin.triangles → DoFit tin frame t u

-- and a triangulation is sound that has such a border in both frames
abbrev pub BorderedIsSound : Type 0
BorderedIsSound = (tin : Triangulation) (mate : Mates) → ((frame : Frame) → IsBordered tin mate frame) → IsSound tin
