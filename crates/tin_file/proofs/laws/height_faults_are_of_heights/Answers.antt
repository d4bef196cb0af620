-- The proof of the law `height_faults_are_of_heights` in src/laws.rt.
use Rattle.tin_file.proofs.FirstFaults.Outcomes.{no_height_faults}
use Rattle.tin_file.proofs.laws.height_faults_are_of_heights.Goals as goal

pub returns : goal.returns
returns c = no_height_faults
