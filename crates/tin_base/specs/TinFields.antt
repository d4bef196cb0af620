-- What contracts see of the types that keep a triangulation, and what these keep.
use Rattle.tin_base.specs.declared.tins.Tin.TheInside.{Inside}
use Rattle.tin_base.specs.Triangulation.{Triangulation, triangulation}
use Rattle.tin_base.specs.Limits.{IsWithinLimits}

-- the lists that the type holds
abbrev pub view_of : Inside → Triangulation
view_of tin = triangulation tin.corners.items tin.triangles.items tin.inexact

-- what is true of each value of the type
abbrev pub HasInvariant : Inside → Type 0
HasInvariant tin = IsWithinLimits (view_of tin)
