-- Answers to the goals of `twice_area` in src/ways.rt.
use Rattle.std.proofs.Common.{arith}
use Rattle.std.proofs.lemmas.Int.{to_z-of_z}
use Rattle.ring_side.proofs.PointSides.Sweeps.{turns_from_first}
use Rattle.ring_side.proofs.ways.twice_area.Goals as goal

pub returns-in-Some : goal.returns-in-Some
returns-in-Some c = grind (arith, to_z-of_z, turns_from_first)
