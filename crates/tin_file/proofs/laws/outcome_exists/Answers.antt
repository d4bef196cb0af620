-- The proof of the law `outcome_exists` in src/laws.rt.
use Rattle.tin_file.proofs.FirstFaults.Outcomes.{outcome}
use Rattle.tin_file.proofs.laws.outcome_exists.Goals as goal

pub returns : goal.returns
returns c = outcome
