-- Answers to the goals of `faults_are_one` in src/laws.rt.
use Rattle.tin_faults.proofs.OneList.{faults_one}
use Rattle.tin_faults.proofs.laws.faults_are_one.Goals as goal

pub returns : goal.returns
returns c = faults_one
