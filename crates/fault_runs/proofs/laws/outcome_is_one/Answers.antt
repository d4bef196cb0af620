-- Answers to the goals of `outcome_is_one` in src/laws.rt.
use Rattle.fault_runs.proofs.OneOutcome.{outcome_one}
use Rattle.fault_runs.proofs.laws.outcome_is_one.Goals as goal

pub returns : goal.returns
returns c = outcome_one c.answer_is_one.ensures c.tin_end_is_one.ensures c.faults_are_one.ensures
    c.lists_are_counted.ensures
