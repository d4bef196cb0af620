-- The invariant of `word_at` in src/word_flaws.rt.
use Rattle.std.proofs.Common.{◌≡◌, drop}
use Rattle.run_notes.specs.WordFlaws.{word_at}
use Rattle.run_notes.specs.InsideWordFlaws.{uses_in}
use Rattle.run_notes.proofs.word_flaws.word_at.Given as goal

-- the word is among the uses that are left, of the number that is left
abbrev pub invariant-loop-one : goal.invariant-loop-one
invariant-loop-one l = word_at l.fn.number (uses_in l.uses) ≡ word_at l.left (uses_in (drop l.one-index l.uses))
