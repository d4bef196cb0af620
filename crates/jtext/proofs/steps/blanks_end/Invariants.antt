-- The invariant and the measure of the loop of `blanks_end` in src/steps.rt.
use Rattle.std.proofs.Common.{◌≤◌, length, ◌-◌}
use Rattle.std.specs.Prelude.{slice_range}
use Rattle.std.specs.List.{AllByRecursion}
use Rattle.jtext.specs.Values.{IsBlank}
use Rattle.jtext.proofs.steps.blanks_end.Given as goal

abbrev pub invariant-loop-at : goal.invariant-loop-at
invariant-loop-at l = record {
  begun : l.from ≤ l.at;
  within : l.at ≤ length l.bytes;
  blank : AllByRecursion IsBlank (slice_range l.bytes l.from l.at);
}

abbrev pub decreases-loop-at : goal.decreases-loop-at
decreases-loop-at l = length l.bytes - l.at
