-- The invariant of `is_used` in src/word_uses.rt.
use Rattle.std.proofs.Common.{◌≡◌, drop}
use Rattle.run_notes.specs.WordUses.{is_used}
use Rattle.run_notes.specs.InsideWordFlaws.{uses_in}
use Rattle.run_notes.proofs.word_uses.is_used.Given as goal

-- the answer is that of the uses that are left
abbrev pub invariant-loop-one : goal.invariant-loop-one
invariant-loop-one l = is_used l.name (uses_in l.uses) ≡ is_used l.name (uses_in (drop l.one-index l.uses))
