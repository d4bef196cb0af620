-- The invariant of the loop of `needs_end` in src/text.rt.
use Rattle.std.proofs.Common.{◌≤◌, length, ◌≡◌, ◌+◌, drop}
use Rattle.std.specs.Prelude.{slice_range, Some}
use Rattle.text_places.specs.Machine.{run}
use Rattle.jtext.specs.InsideTokens.{inner_step, needing}
use Rattle.jtext.proofs.text.needs_end.Given as goal

abbrev pub invariant-loop-need : goal.invariant-loop-need
invariant-loop-need l = record {
  place : l.at ≡ l.from + l.need-index;
  within : l.at ≤ length l.bytes;
  passes : run inner_step (needing l.needs) (slice_range l.bytes l.from l.at)
      ≡ Some (needing (drop l.need-index l.needs));
}
