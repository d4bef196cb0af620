-- Answers to the goals of `side_of` in src/sides.rt.
use Rattle.std.proofs.Common.{arith}
use Rattle.ring_side.proofs.PointSides.SideParts.{side_from_last}
use Rattle.ring_side.proofs.sides.side_of.Goals as goal

pub returns-in-Some : goal.returns-in-Some
returns-in-Some c = grind (arith, side_from_last, c.side_along.ensures, c.last.ensures.value, c.in-Some.is)
