-- Answers to the goals of `has_one_side` in src/changes.rt.
use Rattle.std.proofs.Common.{arith}
use Rattle.ring_side.proofs.PointGroups.Sifted.{quiet_by}
use Rattle.ring_side.proofs.changes.has_one_side.Goals as goal

pub returns-in-Some-side_of_box : goal.returns-in-Some-side_of_box
returns-in-Some-side_of_box c = grind (arith, quiet_by)
