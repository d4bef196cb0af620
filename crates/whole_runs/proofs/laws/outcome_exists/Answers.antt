-- Answers to the goals of `outcome_exists` in src/laws.rt.
use Rattle.whole_runs.proofs.SomeOutcome.{outcome_exists}
use Rattle.whole_runs.proofs.laws.outcome_exists.Goals as goal

pub returns : goal.returns
returns c =
    outcome_exists c.words_have_one_answer.ensures c.jobs_are_kept.ensures c.migration_exists.ensures
    c.making_exists.ensures c.check_end_exists.ensures c.verification_exists.ensures c.heights_exist.ensures
