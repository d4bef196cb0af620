-- The proof of the law `tall_outcome_exists` in src/laws.rt.
use Rattle.tin_file.proofs.FirstFaults.Outcomes.{tall_outcome}
use Rattle.tin_file.proofs.laws.tall_outcome_exists.Goals as goal

pub returns : goal.returns
returns c = tall_outcome
