-- Points on the segment between two corners.
use Rattle.std.specs.Prelude.{ℕ, ℤ}
use Rattle.plane_base.specs.Plane.{Point, along}
use Rattle.tin_base.specs.declared.frames.Frame.{Frame}
use Rattle.tin_base.specs.Triangulation.{Triangulation, place, corner_at}

-- the point at n/d from the place of corner p to that of corner q in the frame
abbrev pub cut_of : Triangulation → Frame → ℕ → ℕ → ℤ → ℤ → Point
cut_of tin frame p q n d = along (place frame (corner_at tin p)) (place frame (corner_at tin q)) n d
