-- Points that two shapes have in common. A shape is given by its corners: its points are their mixes.
use Rattle.std.specs.Prelude.{pos, ◌<ℤ◌, List}
use Rattle.plane_base.specs.Plane.{Point, IsMix}

-- some point is in both
abbrev pub HaveCommonPoint : List Point → List Point → Type 0
HaveCommonPoint ps qs = (p : Point) × (pos 0 <ℤ p.w) × IsMix p ps × IsMix p qs

-- each point in both is a mix of the third points
abbrev pub MeetOnlyIn : List Point → List Point → List Point → Type 0
MeetOnlyIn ps qs rs = (p : Point) → pos 0 <ℤ p.w → IsMix p ps → IsMix p qs → IsMix p rs
