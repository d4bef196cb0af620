-- The part of a segment that a triangle has, as the code finds it. Only private functions speak of it.
use Rattle.std.specs.Prelude.{ℕ, ◌<◌, length, Option, Some, None}
use Rattle.plane_base.specs.Slices.{IsParam}
use Rattle.plane_base.specs.declared.shapes.Pt.{Pt}
use Rattle.plane_base.specs.declared.stretches.Stretch.{Stretch}
use Rattle.tin_base.specs.Triangulation.{Triangulation}
use Rattle.tin_base.specs.Segments.{Spot, at_a, IsSameSpot, IsPart}
use Rattle.tin_base.specs.Slices.{spot_of, IsSliceIn, AreNearTriangle}

-- the stretch is the part of triangle t, and begins at the spot
pub record IsPartAt (tin : Triangulation) (a b : Pt) (t : ℕ) (x : Spot) (stretch : Stretch) : Type 0 where
  pub in_range : t < length tin.triangles
  pub slice : IsSliceIn tin a b t stretch
  pub near : AreNearTriangle tin a b t
  pub ends : IsParam stretch.hi.num stretch.hi.den
  pub part : IsPart tin a b t (spot_of stretch.lo) (spot_of stretch.hi)
  pub begins : IsSameSpot (spot_of stretch.lo) x

-- no part of triangle t begins at the spot
abbrev pub HasNoPartAt : Triangulation → Pt → Pt → ℕ → Spot → Type 0
HasNoPartAt tin a b t x = (first last : Spot) → IsPart tin a b t first last → IsSameSpot first x → ⊥

-- where a part ends, or the first end of the segment where there is none
abbrev pub spot_behind : Option Stretch → Spot
spot_behind None = at_a
spot_behind (Some stretch) = spot_of stretch.hi

abbrev pub EndsAtParam : Option Stretch → Type 0
EndsAtParam None = Unit {0}
EndsAtParam (Some stretch) = IsParam stretch.hi.num stretch.hi.den
