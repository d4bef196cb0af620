-- The sides of a triangle, by the numbers of their two corners.
use Rattle.std.specs.Prelude.{ℕ, zero, suc, slice_index_or}
use Rattle.tin_base.specs.Triangulation.{Triangulation, numbers_of}

-- the number of the k-th corner of triangle t, counted from 0
abbrev pub corner_number : Triangulation → ℕ → ℕ → ℕ
corner_number tin t k = slice_index_or (numbers_of tin t) k 0

-- the corner at the other end of the side that begins at this one
abbrev pub next_corner : ℕ → ℕ
next_corner zero = 1
next_corner (suc zero) = 2
next_corner (suc (suc k)) = 0
