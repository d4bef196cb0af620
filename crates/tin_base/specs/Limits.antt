-- What each triangulation keeps, sound or not: its numbers are those of corners, and its corners are few, different and
-- near each other.
use Rattle.std.specs.Prelude.{◌≡◌, ℕ, ◌<◌, ◌≤◌, ℤ, neg_ℤ, ◌-ℤ◌, ◌≤ℤ◌, ◌<ℤ◌, length, All}
use Rattle.plane_base.specs.declared.shapes.TheConstants.{SPAN}
use Rattle.tin_base.specs.declared.corners.Corner.{Corner}
use Rattle.tin_base.specs.declared.frames.Frame.{Frame}
use Rattle.tin_base.specs.declared.limits.TheConstants.{REACH, MOST_CORNERS, MOST_TRIANGLES}
use Rattle.tin_base.specs.Triangulation.{Triangulation, x_in, y_in, corner_at, numbers_of}

-- a number within the reach of the frames
abbrev pub IsInReach : ℤ → Type 0
IsInReach z = (neg_ℤ REACH ≤ℤ z) × (z ≤ℤ REACH)

-- both numbers of a corner in a frame are in reach
abbrev pub IsCornerInReach : Frame → Corner → Type 0
IsCornerInReach frame corner = IsInReach (x_in frame corner) × IsInReach (y_in frame corner)

-- on no axis is the second far below the first
abbrev pub IsNotFarBelow : Frame → Corner → Corner → Type 0
IsNotFarBelow frame c d = ((x_in frame c -ℤ x_in frame d) <ℤ SPAN) × ((y_in frame c -ℤ y_in frame d) <ℤ SPAN)

-- what each triangulation keeps
pub record IsWithinLimits (tin : Triangulation) : Type 0 where
  pub three : (t : ℕ) → t < length tin.triangles → length (numbers_of tin t) ≡ 3
  pub in_range : (t : ℕ) → t < length tin.triangles → All (λ n. n < length tin.corners) (numbers_of tin t)
  pub in_reach : (frame : Frame) (n : ℕ) → n < length tin.corners → IsCornerInReach frame (corner_at tin n)
  -- so each span is below SPAN
  pub near : (frame : Frame) (m n : ℕ) → m < length tin.corners → n < length tin.corners
      → IsNotFarBelow frame (corner_at tin m) (corner_at tin n)
  pub different : (m n : ℕ) → m < length tin.corners → n < length tin.corners → corner_at tin m ≡ corner_at tin n
      → m ≡ n
  pub corner_count : length tin.corners ≤ MOST_CORNERS
  pub triangle_count : length tin.triangles ≤ MOST_TRIANGLES
