-- Images of points: the same mix of a triangle's corners in the other frame.
use Rattle.std.specs.Prelude.{◌≡◌, ℕ, ◌<◌, List, length, sum}
use Rattle.plane_base.specs.Plane.{Point, Same, weighted_sum}
use Rattle.tin_base.specs.declared.frames.Frame.{Frame}
use Rattle.tin_base.specs.declared.frames.Frame.TheVariants.{Source}
use Rattle.tin_base.specs.Triangulation.{Triangulation, other, numbers_of, places, IsInTriangle}

-- with some weights, p is the mix of the corners of these numbers in the frame, and r in the other frame
abbrev pub AreLikeMixes : Triangulation → Frame → List ℕ → Point → Point → Type 0
AreLikeMixes tin frame numbers p r =
    (weights : List ℕ) × (length weights ≡ length numbers) × (0 < sum weights)
    × Same p (weighted_sum weights (places tin frame numbers))
    × Same r (weighted_sum weights (places tin (other frame) numbers))

-- from one of the frames to the other
abbrev pub IsImageFrom : Triangulation → Frame → Point → Point → Type 0
IsImageFrom tin frame p r = (t : ℕ) × (t < length tin.triangles) × AreLikeMixes tin frame (numbers_of tin t) p r

-- r is the image of p
abbrev pub IsImage : Triangulation → Point → Point → Type 0
IsImage tin p r = IsImageFrom tin Source p r

-- some triangle of the frame has the point
abbrev pub IsInSome : Triangulation → Frame → Point → Type 0
IsInSome tin frame p = (t : ℕ) × (t < length tin.triangles) × IsInTriangle tin frame t p
