-- Answers to the goals of `read_wanted` in src/words.rt.
use Rattle.std.proofs.Common.{map, string_bytes, ◌∙◌}
use Rattle.job_words.specs.declared.jobs.Job.TheVariants.{Migrate, Make, Verify, Heights}
use Rattle.fault_runs.specs.Words.{is_lines}
use Rattle.fault_runs.proofs.WordsOfCheck.{of_words, any_word}
use Rattle.fault_runs.proofs.words.read_wanted.Goals as goal

pub unreachable-requires : goal.unreachable-requires
unreachable-requires c =
    of_words (map string_bytes c.args.words.now) (Migrate c.in-Ok-Migrate.field-0-0 c.in-Ok-Migrate.field-0-1
    c.in-Ok-Migrate.field-0-2 c.in-Ok-Migrate.field-0-3 c.in-Ok-Migrate.field-0-4 c.in-Ok-Migrate.field-0-5
    c.in-Ok-Migrate.field-0-6)
    (rw (c.deref.ensures.value, c.in-Ok.ensures, c.in-Ok-Migrate.field-0-is) at c.in-Ok-Migrate.ensures.job)

pub unreachable-requires-in-Ok-Make : goal.unreachable-requires-in-Ok-Make
unreachable-requires-in-Ok-Make c =
    of_words (map string_bytes c.args.words.now) (Make c.in-Ok-Make.field-0-0)
    (rw (c.deref.ensures.value, c.in-Ok.ensures, c.in-Ok-Make.field-0-is) at c.in-Ok-Make.ensures.job)

pub unreachable-requires-in-Ok-Verify : goal.unreachable-requires-in-Ok-Verify
unreachable-requires-in-Ok-Verify c =
    of_words (map string_bytes c.args.words.now) (Verify c.in-Ok-Verify.field-0-0 c.in-Ok-Verify.field-0-1
    c.in-Ok-Verify.field-0-2 c.in-Ok-Verify.field-0-3 c.in-Ok-Verify.field-0-4 c.in-Ok-Verify.field-0-5)
    (rw (c.deref.ensures.value, c.in-Ok.ensures, c.in-Ok-Verify.field-0-is) at c.in-Ok-Verify.ensures.job)

pub unreachable-requires-in-Ok-Heights : goal.unreachable-requires-in-Ok-Heights
unreachable-requires-in-Ok-Heights c =
    of_words (map string_bytes c.args.words.now) (Heights c.in-Ok-Heights.field-0-0 c.in-Ok-Heights.field-0-1
    c.in-Ok-Heights.field-0-2 c.in-Ok-Heights.field-0-3)
    (rw (c.deref.ensures.value, c.in-Ok.ensures, c.in-Ok-Heights.field-0-is) at c.in-Ok-Heights.ensures.job)

pub returns-in-Ok-Check-clause-asks : goal.returns-in-Ok-Check-clause-asks
returns-in-Ok-Check-clause-asks c = record {
  job = rw (c.deref.ensures.value, c.in-Ok.ensures, c.in-Ok-Check.field-0-is) at c.in-Ok-Check.ensures.job;
  lines = c.has_word.ensures ∙ any_word is_lines string_bytes c.args.words.now;
}
