-- The invariant and the measure of the loop of `likely_number` in src/features.rt.
use Rattle.std.proofs.Common.{◌≤◌, ◌-◌, length}
use Rattle.layer_features.proofs.features.likely_number.Given as goal

abbrev pub invariant-loop-from : goal.invariant-loop-from
invariant-loop-from l = record { order : l.from ≤ l.past; within : l.past ≤ length l.features }

abbrev pub decreases-loop-from : goal.decreases-loop-from
decreases-loop-from l = l.past - l.from
