-- Answers to the goals of `add_ends` in src/points.rt.
use Rattle.std.proofs.Common.{arith}
use Rattle.std.proofs.lemmas.Grind.{common_steps}
use Rattle.dxf_entities.proofs.points.add_ends.Goals as goal

pub add_point-requires-in-None : goal.add_point-requires-in-None
add_point-requires-in-None c = grind (arith, common_steps)

pub add_raised-requires-in-Some : goal.add_raised-requires-in-Some
add_raised-requires-in-Some c = grind (arith, common_steps)
