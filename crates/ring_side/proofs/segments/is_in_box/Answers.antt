-- Answers to the goals of `is_in_box` in src/segments.rt.
use Rattle.std.proofs.Common.{arith}
use Rattle.std.proofs.lemmas.Int.{to_z-of_z}
use Rattle.ring_side.proofs.PointSides.Crossings.{second_test}
use Rattle.ring_side.proofs.segments.is_in_box.Goals as goal

pub returns-then-is_between : goal.returns-then-is_between
returns-then-is_between c = grind (arith, to_z-of_z, second_test)
