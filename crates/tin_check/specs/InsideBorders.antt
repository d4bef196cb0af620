-- Which sides are joined, as it is read from a row of three mates for each triangle; and the list of the others. Only
-- private functions speak of it.
use Rattle.std.specs.Prelude.{◌≡◌, ◌≢◌, ◌⊎◌, ℕ, ◌<◌, List, [], length, All, Contains, slice_index_or}
use Rattle.plane_base.specs.declared.shapes.Pt.{Pt}
use Rattle.plane_base.specs.declared.shapes.Rect.{Rect}
use Rattle.plane_base.specs.Plane.{whole}
use Rattle.plane_base.specs.Boxes.{box_of_segment}
use Rattle.tin_base.specs.declared.frames.Frame.{Frame}
use Rattle.tin_base.specs.Triangulation.{Triangulation, place, corner_at}
use Rattle.border_law.specs.Borders.{Mates, IsMatching, IsBorder, MeetAtCorner}
use Rattle.tin_check.specs.declared.borders.BorderSide.{BorderSide}

-- the number at a place of row t
abbrev pub entry_at : List (List ℕ) → ℕ → ℕ → ℕ
entry_at rows t k = slice_index_or (slice_index_or rows t []) k 0

-- the side from place a to place b of triangle t is that from i to j, and its mate is u
abbrev pub IsAtPlace : Triangulation → List (List ℕ) → ℕ → ℕ → ℕ → ℕ → ℕ → ℕ → Type 0
IsAtPlace tin mates t i j u a b = (i ≡ entry_at tin.triangles t a) × (j ≡ entry_at tin.triangles t b)
    × (u ≡ entry_at mates t a)

-- triangle t has the side from i to j, and its mate there is u
abbrev pub PointsTo : Triangulation → List (List ℕ) → ℕ → ℕ → ℕ → ℕ → Type 0
PointsTo tin mates t i j u = IsAtPlace tin mates t i j u 0 1
    ⊎ (IsAtPlace tin mates t i j u 1 2 ⊎ IsAtPlace tin mates t i j u 2 0)

-- the side from i to j of triangle t is joined with the side from j to i of triangle u
pub record IsJoined (tin : Triangulation) (mates : List (List ℕ)) (t i j u : ℕ) : Type 0 where
  pub below : u < length tin.triangles
  pub there : PointsTo tin mates t i j u
  pub back : PointsTo tin mates u j i t

-- ---- the sides that are not joined
abbrev pub side_of : ℕ → ℕ → ℕ → BorderSide
side_of t i j = record { triangle = t; from = i; to = j }

-- a side is joined, or listed
abbrev pub IsListed : Triangulation → List (List ℕ) → List BorderSide → ℕ → ℕ → ℕ → Type 0
IsListed tin mates sides t i j = ((u : ℕ) × IsJoined tin mates t i j u) ⊎ Contains sides (side_of t i j)

-- so is each side of triangle t
abbrev pub AreAllListed : Triangulation → List (List ℕ) → List BorderSide → ℕ → Type 0
AreAllListed tin mates sides t =
    IsListed tin mates sides t (entry_at tin.triangles t 0) (entry_at tin.triangles t 1)
    × IsListed tin mates sides t (entry_at tin.triangles t 1) (entry_at tin.triangles t 2)
    × IsListed tin mates sides t (entry_at tin.triangles t 2) (entry_at tin.triangles t 0)

-- and of each of the first n triangles
abbrev pub AreListed : Triangulation → List (List ℕ) → ℕ → List BorderSide → Type 0
AreListed tin mates n sides = (t : ℕ) → t < n → AreAllListed tin mates sides t

-- the later list has all that the earlier one has
abbrev pub HasMore : List BorderSide → List BorderSide → Type 0
HasMore sides more = (side : BorderSide) → Contains sides side → Contains more side

-- the numbers are those of triangles and corners
pub record IsSideIn (tin : Triangulation) (side : BorderSide) : Type 0 where
  pub triangle : side.triangle < length tin.triangles
  pub from : side.from < length tin.corners
  pub to : side.to < length tin.corners

abbrev pub AreSides : Triangulation → List BorderSide → Type 0
AreSides tin sides = All (λ side. IsSideIn tin side) sides

-- the list has each border side of some matching
pub record IsBorderOf (tin : Triangulation) (sides : List BorderSide) : Type 0 where
  pub mate : Mates
  pub matching : IsMatching tin mate
  pub has : (t i j : ℕ) → IsBorder tin mate t i j → Contains sides (side_of t i j)
  pub in_range : AreSides tin sides

-- ---- the border in a frame
-- the side meets a triangle that is not its own in a common corner at most
abbrev pub DoesMeet : Triangulation → Frame → BorderSide → ℕ → Type 0
DoesMeet tin frame side t = side.triangle ≢ t → MeetAtCorner tin frame side.from side.to t

-- what a number stands for that is no side's
abbrev pub no_side : BorderSide
no_side = record { triangle = 0; from = 0; to = 0 }

abbrev pub side_at : List BorderSide → ℕ → BorderSide
side_at sides number = slice_index_or sides number no_side

-- it is the box of the side in the frame
pub record IsSideBox (tin : Triangulation) (frame : Frame) (side : BorderSide) (box : Rect) : Type 0 where
  pub from : Pt
  pub to : Pt
  pub at_from : whole from ≡ place frame (corner_at tin side.from)
  pub at_to : whole to ≡ place frame (corner_at tin side.to)
  pub is : box ≡ box_of_segment from to
