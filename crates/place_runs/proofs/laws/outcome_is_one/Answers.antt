-- Answers to the goals of `outcome_is_one` in src/laws.rt.
use Rattle.place_runs.proofs.Outcomes.OneOutcome.{outcome_is_one}
use Rattle.place_runs.proofs.laws.outcome_is_one.Goals as goal

pub returns : goal.returns
returns c = outcome_is_one c.features_are_one.ensures c.layer_texts_are_one.ensures c.migration_is_one.ensures
