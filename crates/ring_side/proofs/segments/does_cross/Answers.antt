-- Answers to the goals of `does_cross` in src/segments.rt.
use Rattle.std.proofs.Common.{arith}
use Rattle.std.proofs.lemmas.Int.{to_z-of_z}
use Rattle.ring_side.proofs.PointSides.Crossings.{crosses_rising, crosses_falling}
use Rattle.ring_side.proofs.segments.does_cross.Goals as goal

pub returns-else-b-p : goal.returns-else-b-p
returns-else-b-p c = grind (arith, to_z-of_z, crosses_falling, c.if-a-p.true, c.if-b-p.false)

pub returns-then-b-p-2 : goal.returns-then-b-p-2
returns-then-b-p-2 c = grind (arith, to_z-of_z, crosses_rising, c.if-a-p.false, c.if-b-p-2.true)
