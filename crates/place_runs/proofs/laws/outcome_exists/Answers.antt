-- Answers to the goals of `outcome_exists` in src/laws.rt.
use Rattle.place_runs.proofs.Outcomes.SomeOutcome.{outcome_exists}
use Rattle.place_runs.proofs.laws.outcome_exists.Goals as goal

pub returns : goal.returns
returns c = outcome_exists c.features_exist.ensures c.places_jobs_are_kept.ensures c.migration_exists.ensures
    c.gap_exists.ensures c.nearest_end_exists.ensures
