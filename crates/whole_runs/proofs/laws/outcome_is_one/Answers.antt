-- Answers to the goals of `outcome_is_one` in src/laws.rt.
use Rattle.whole_runs.proofs.OneOutcome.{outcome_is_one}
use Rattle.whole_runs.proofs.laws.outcome_is_one.Goals as goal

pub returns : goal.returns
returns c = outcome_is_one c.migration_is_one.ensures c.making_is_one.ensures c.verification_is_one.ensures
    c.heights_are_one.ensures
