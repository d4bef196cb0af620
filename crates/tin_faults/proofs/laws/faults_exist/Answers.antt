-- Answers to the goals of `faults_exist` in src/laws.rt.
use Rattle.tin_faults.proofs.SomeList.{faults_exist}
use Rattle.tin_faults.proofs.laws.faults_exist.Goals as goal

pub returns : goal.returns
returns c = faults_exist c.outcome_exists.ensures
