-- The proof of the law `outcome_exists` in src/laws.rt.
use Rattle.carry_map.proofs.Outcomes.{outcome}
use Rattle.carry_map.proofs.laws.outcome_exists.Goals as goal

pub returns : goal.returns
returns c = outcome
