-- The proof of the law `text_outcome_exists` in src/laws.rt.
use Rattle.gj_layer.proofs.Outcomes.SomeOutcome.{outcome_exists}
use Rattle.gj_layer.proofs.laws.text_outcome_exists.Goals as goal

pub returns : goal.returns
returns c = outcome_exists c.outcome_exists.ensures
