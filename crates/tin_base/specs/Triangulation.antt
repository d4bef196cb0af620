-- A triangulation as contracts see it: corners with a place in each of two frames, and triangles by the numbers of
-- their corners.
use Rattle.std.specs.Prelude.{ℕ, ℤ, pos, List, [], map, slice_index_or}
use Rattle.plane_base.specs.Plane.{Point, IsMix}
use Rattle.tin_base.specs.declared.corners.Corner.{Corner}
use Rattle.tin_base.specs.declared.frames.Frame.{Frame}
use Rattle.tin_base.specs.declared.frames.Frame.TheVariants.{Source, Target}

-- corners, and of each triangle the numbers of its three corners
pub record Triangulation : Type 0 where
  pub corners : List Corner
  pub triangles : List (List ℕ)
  -- how many of the numbers that it was read from lost digits
  pub inexact : ℕ

-- the triangulation of these lists
abbrev pub triangulation : List Corner → List (List ℕ) → ℕ → Triangulation
triangulation corners triangles inexact = record { corners = corners; triangles = triangles; inexact = inexact }

-- the frame that is not this one
abbrev pub other : Frame → Frame
other Source = Target
other Target = Source

-- a corner's first number in a frame
abbrev pub x_in : Frame → Corner → ℤ
x_in Source corner = corner.sx
x_in Target corner = corner.tx

-- a corner's second number in a frame
abbrev pub y_in : Frame → Corner → ℤ
y_in Source corner = corner.sy
y_in Target corner = corner.ty

-- where a corner is in a frame
abbrev pub place : Frame → Corner → Point
place frame corner = record { x = x_in frame corner; y = y_in frame corner; w = pos 1 }

-- what a number stands for that is no corner's
abbrev pub no_corner : Corner
no_corner = record { sx = pos 0; sy = pos 0; tx = pos 0; ty = pos 0 }

abbrev pub corner_at : Triangulation → ℕ → Corner
corner_at tin number = slice_index_or tin.corners number no_corner

-- the numbers of the corners of triangle t
abbrev pub numbers_of : Triangulation → ℕ → List ℕ
numbers_of tin t = slice_index_or tin.triangles t []

-- where the corners of these numbers are in a frame
abbrev pub places : Triangulation → Frame → List ℕ → List Point
places tin frame numbers = map (λ number. place frame (corner_at tin number)) numbers

-- a point is in triangle t of a frame: it is a mix of the three corners
abbrev pub IsInTriangle : Triangulation → Frame → ℕ → Point → Type 0
IsInTriangle tin frame t p = IsMix p (places tin frame (numbers_of tin t))
