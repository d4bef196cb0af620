-- The invariant of `missing` in src/word_flaws.rt.
use Rattle.std.proofs.Common.{◌≡◌, drop}
use Rattle.run_notes.specs.InsideWordFlaws.{options_in, uses_in}
use Rattle.run_notes.specs.WordFlaws.{first_unused}
use Rattle.run_notes.proofs.word_flaws.missing.Given as goal

-- the first option that is missing is among those that are left
abbrev pub invariant-loop-option : goal.invariant-loop-option
invariant-loop-option l = first_unused (uses_in l.uses) (options_in l.form.valued.now)
    ≡ first_unused (uses_in l.uses) (options_in (drop l.option-index l.form.valued.now))
