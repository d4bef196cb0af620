-- Answers to the goals of `outcome_exists` in src/laws.rt.
use Rattle.fault_runs.proofs.SomeOutcome.{outcome_exists}
use Rattle.fault_runs.proofs.laws.outcome_exists.Goals as goal

pub returns : goal.returns
returns c = outcome_exists c.outcome_exists.ensures c.faults_exist.ensures c.lists_are_counted.ensures
