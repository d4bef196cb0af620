-- Corners and sides of triangles by their numbers, and the triangles that have them. Side k goes from corner k to the
-- next.
use Rattle.std.specs.Prelude.{◌≢◌, ◌↔◌, ℕ, zero, suc, ◌<◌, List, length, slice_index_or, Contains, IsTrue}
use Rattle.std.specs.List.Sorted.{IsStrictlyIncreasing}
use Rattle.tin_base.specs.Triangulation.{Triangulation, numbers_of}
use Rattle.tin_base.specs.Soundness.{has}

-- the triangle has the corner of this number
abbrev pub HasCorner : Triangulation → ℕ → ℕ → Type 0
HasCorner tin t corner = IsTrue (has (numbers_of tin t) corner)

-- the number of a triangle's k-th corner, from 0
abbrev pub corner_of : Triangulation → ℕ → ℕ → ℕ
corner_of tin t k = slice_index_or (numbers_of tin t) k 0

-- the corner after the k-th; after the last the first
abbrev pub next_of : ℕ → ℕ
next_of zero = 1
next_of (suc zero) = 2
next_of (suc (suc k)) = 0

-- another triangle that has both corners of side k of triangle t
pub record IsAcross (tin : Triangulation) (t k other : ℕ) : Type 0 where
  pub in_range : other < length tin.triangles
  pub differs : other ≢ t
  pub first : HasCorner tin other (corner_of tin t k)
  pub second : HasCorner tin other (corner_of tin t (next_of k))

-- the numbers of the triangles that have the corner, ascending
pub record IsStar (tin : Triangulation) (corner : ℕ) (numbers : List ℕ) : Type 0 where
  pub ascending : IsStrictlyIncreasing numbers
  pub exact : (t : ℕ) → Contains numbers t ↔ ((t < length tin.triangles) × HasCorner tin t corner)
