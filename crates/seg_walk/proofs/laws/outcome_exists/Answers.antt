-- Answers to the goals of `outcome_exists` in src/laws.rt.
use Rattle.tin_base.proofs.PieceChains.Outcomes.{outcome}
use Rattle.seg_walk.proofs.laws.outcome_exists.Goals as goal

pub returns : goal.returns
returns c = outcome
