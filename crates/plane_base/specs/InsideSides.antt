-- What the code of a slice knows of a triangle's three sides along the segment from a to b.
use Rattle.std.specs.Prelude.{◌≡◌, ◌⊎◌, ℤ, pos, ◌≤ℤ◌}
use Rattle.frac128.specs.declared.frac.Frac.{Frac}
use Rattle.plane_base.specs.Plane.{whole, turn_of}
use Rattle.plane_base.specs.Slices.{IsParam, IsEnd}
use Rattle.plane_base.specs.InsideCourses.{value_at, IsZeroAt, IsBound}
use Rattle.plane_base.specs.declared.shapes.Pt.{Pt}
use Rattle.plane_base.specs.declared.shapes.Tri.{Tri}
use Rattle.plane_base.specs.declared.stretches.End.{End}
use Rattle.plane_base.specs.declared.stretches.Courses.{Courses}

-- the turns of the three sides with both ends of the segment
pub record AreOfSides (a b : Pt) (t : Tri) (c : Courses) : Type 0 where
  pub ab_start : c.ab.start ≡ turn_of (whole t.a) (whole t.b) (whole a)
  pub ab_end : c.ab.end ≡ turn_of (whole t.a) (whole t.b) (whole b)
  pub bc_start : c.bc.start ≡ turn_of (whole t.b) (whole t.c) (whole a)
  pub bc_end : c.bc.end ≡ turn_of (whole t.b) (whole t.c) (whole b)
  pub ca_start : c.ca.start ≡ turn_of (whole t.c) (whole t.a) (whole a)
  pub ca_end : c.ca.end ≡ turn_of (whole t.c) (whole t.a) (whole b)

-- a parameter at which none of the three is below 0
abbrev pub IsLeftOfAll : Courses → ℤ → ℤ → Type 0
IsLeftOfAll c n d =
    IsParam n d × (pos 0 ≤ℤ value_at c.ab.start c.ab.end n d) × (pos 0 ≤ℤ value_at c.bc.start c.bc.end n d)
    × (pos 0 ≤ℤ value_at c.ca.start c.ca.end n d)

-- none of the three is below 0 at an end of the way
abbrev pub AreLeftAtEnds : Courses → Type 0
AreLeftAtEnds c =
    ((pos 0 ≤ℤ c.ab.start) × (pos 0 ≤ℤ c.ab.end)) × ((pos 0 ≤ℤ c.bc.start) × (pos 0 ≤ℤ c.bc.end))
    × ((pos 0 ≤ℤ c.ca.start) × (pos 0 ≤ℤ c.ca.end))

-- f is an end of the way, or a bound of one of the three
abbrev pub IsBoundOfOne : Type 0 → Courses → Frac → Type 0
IsBoundOfOne end c f = end ⊎ (IsBound end c.ab.start c.ab.end f
    ⊎ (IsBound end c.bc.start c.bc.end f ⊎ IsBound end c.ca.start c.ca.end f))

-- f is an end of the way, or one of the three changes and is 0 there
abbrev pub IsZeroOfOne : Type 0 → Courses → Frac → Type 0
IsZeroOfOne end c f = end ⊎ (IsZeroAt c.ab.start c.ab.end f
    ⊎ (IsZeroAt c.bc.start c.bc.end f ⊎ IsZeroAt c.ca.start c.ca.end f))

-- where f lies, by the three
abbrev pub IsEndBy : Type 0 → Courses → Frac → End → Type 0
IsEndBy vertex c f end = IsEnd vertex (IsZeroAt c.ab.start c.ab.end f) (IsZeroAt c.bc.start c.bc.end f)
    (IsZeroAt c.ca.start c.ca.end f) end
