-- The invariant and the measure of the loop of `text_end` in src/text.rt.
use Rattle.std.proofs.Common.{◌≤◌, length, ◌≡◌, ◌-◌}
use Rattle.std.specs.Prelude.{slice_range, Some}
use Rattle.text_places.specs.Machine.{run}
use Rattle.jtext.specs.InsideTokens.{Inner, inner_step}
use Rattle.jtext.proofs.text.text_end.Given as goal

abbrev pub invariant-loop-at : goal.invariant-loop-at
invariant-loop-at l = record {
  begun : l.from ≤ l.at;
  within : l.at ≤ length l.bytes;
  passes : run inner_step Inner.plain (slice_range l.bytes l.from l.at) ≡ Some Inner.plain;
}

abbrev pub decreases-loop-at : goal.decreases-loop-at
decreases-loop-at l = length l.bytes - l.at
