-- What each change of a side or a direction says.
use Rattle.std.specs.Prelude.{◌≢◌}
use Rattle.ring_side.specs.declared.kinds.SideChange.{SideChange}
use Rattle.ring_side.specs.declared.kinds.SideChange.TheVariants.{Turn, Point}

-- the direction, or the side, is another one now
abbrev pub DoesDiffer : SideChange → Type 0
DoesDiffer (Turn layer path was now) = was ≢ now
DoesDiffer (Point layer path at was now) = was ≢ now
