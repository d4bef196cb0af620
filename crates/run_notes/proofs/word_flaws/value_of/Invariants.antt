-- The invariant of `value_of` in src/word_flaws.rt.
use Rattle.std.proofs.Common.{◌≡◌, drop}
use Rattle.run_notes.specs.WordFlaws.{value_of}
use Rattle.run_notes.specs.InsideWordFlaws.{uses_in}
use Rattle.run_notes.proofs.word_flaws.value_of.Given as goal

-- the value is among the uses that are left
abbrev pub invariant-loop-one : goal.invariant-loop-one
invariant-loop-one l = value_of l.name (uses_in l.uses) ≡ value_of l.name (uses_in (drop l.one-index l.uses))
