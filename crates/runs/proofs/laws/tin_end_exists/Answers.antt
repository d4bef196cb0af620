-- Answers to the goals of `tin_end_exists` in src/laws.rt.
use Rattle.runs.proofs.TinEndExists.{tin_end_exists}
use Rattle.runs.proofs.laws.tin_end_exists.Goals as goal

pub returns : goal.returns
returns c = tin_end_exists c.outcome_exists.ensures c.outcome_exists-2.ensures
