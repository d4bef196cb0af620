-- Answers to the goals of `first_fault_is_listed` in src/laws.rt.
use Rattle.tin_faults.proofs.OneList.{first_listed}
use Rattle.tin_faults.proofs.laws.first_fault_is_listed.Goals as goal

pub returns : goal.returns
returns c = first_listed
