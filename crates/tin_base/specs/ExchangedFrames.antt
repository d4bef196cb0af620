-- A triangulation with its frames exchanged.
use Rattle.std.specs.Prelude.{map}
use Rattle.tin_base.specs.declared.corners.Corner.{Corner}
use Rattle.tin_base.specs.Triangulation.{Triangulation}

-- a corner with its source and its target place changed over
abbrev pub exchanged_corner : Corner → Corner
exchanged_corner corner = record { sx = corner.tx; sy = corner.ty; tx = corner.sx; ty = corner.sy }

-- each corner exchanged
abbrev pub turned_of : Triangulation → Triangulation
turned_of tin = record tin { corners = map exchanged_corner tin.corners }
