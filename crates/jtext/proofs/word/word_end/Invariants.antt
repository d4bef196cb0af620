-- The invariant of the loop of `word_end` in src/word.rt.
use Rattle.std.proofs.Common.{◌≤◌, length, ◌≡◌, ◌+◌, drop}
use Rattle.std.specs.Prelude.{slice_range, Some}
use Rattle.text_places.specs.Machine.{run}
use Rattle.jtext.specs.InsideTokens.{word_step}
use Rattle.jtext.proofs.word.word_end.Given as goal

abbrev pub invariant-loop-letter : goal.invariant-loop-letter
invariant-loop-letter l = record {
  place : l.at ≡ l.from + l.letter-index;
  within : l.at ≤ length l.bytes;
  passes : run word_step l.word (slice_range l.bytes l.from l.at) ≡ Some (drop l.letter-index l.word);
}
