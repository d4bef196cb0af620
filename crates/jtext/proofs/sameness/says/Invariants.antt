-- The invariant and the measure of the loop of `says` in src/sameness.rt.
use Rattle.std.proofs.Common.{◌≤◌, length, ◌-◌}
use Rattle.jtext.specs.InsideUnits.{IsLeft}
use Rattle.jtext.proofs.sameness.says.Given as goal

abbrev pub invariant-loop-at : goal.invariant-loop-at
invariant-loop-at l = record {
  within : l.at ≤ length l.raw;
  counted : l.count ≤ length l.text;
  left : IsLeft l.raw l.text l.at l.count;
}

abbrev pub decreases-loop-at : goal.decreases-loop-at
decreases-loop-at l = length l.raw - l.at
