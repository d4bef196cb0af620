-- The invariant and the measure of the loop of `digits_end` in src/number.rt.
use Rattle.std.proofs.Common.{◌≤◌, length, ◌-◌}
use Rattle.std.specs.Prelude.{slice_range}
use Rattle.std.specs.List.{AllByRecursion}
use Rattle.jtext.specs.Numbers.{IsDigit}
use Rattle.jtext.proofs.number.digits_end.Given as goal

abbrev pub invariant-loop-at : goal.invariant-loop-at
invariant-loop-at l = record {
  begun : l.from ≤ l.at;
  within : l.at ≤ length l.bytes;
  digits : AllByRecursion IsDigit (slice_range l.bytes l.from l.at);
}

abbrev pub decreases-loop-at : goal.decreases-loop-at
decreases-loop-at l = length l.bytes - l.at
