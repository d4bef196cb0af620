-- Answers to the goals of `outcome_exists` in src/laws.rt.
use Rattle.report_text.proofs.Outcomes.{some_outcome}
use Rattle.report_text.proofs.laws.outcome_exists.Goals as goal

pub returns : goal.returns
returns c = some_outcome
