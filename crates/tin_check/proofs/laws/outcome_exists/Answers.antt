-- The proof of the law `outcome_exists` in src/laws.rt.
use Rattle.tin_check.proofs.Outcomes.{outcome}
use Rattle.tin_check.proofs.laws.outcome_exists.Goals as goal

pub returns : goal.returns
returns c = outcome
