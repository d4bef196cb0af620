-- The invariant of `read` in src/word_uses.rt.
use Rattle.std.proofs.Common.{length, map}
use Rattle.std.specs.Prelude.{string_bytes}
use Rattle.run_notes.specs.InsideWordFlaws.{form_in}
use Rattle.run_notes.proofs.UseLists.{IsReadTo}
use Rattle.run_notes.proofs.word_uses.read.Given as goal

abbrev pub invariant-loop-word : goal.invariant-loop-word
invariant-loop-word l = IsReadTo (form_in l.form) (map string_bytes l.words) l.uses.items l.is_ended
    (map string_bytes l.rest)

abbrev pub decreases-loop-word : goal.decreases-loop-word
decreases-loop-word l = length l.rest
