-- Answers to the goals of `layer_outcomes_exist` in src/laws.rt.
use Rattle.layer_formats.proofs.LayerTextLaws.{outcomes_exist}
use Rattle.layer_formats.proofs.laws.layer_outcomes_exist.Goals as goal

pub returns : goal.returns
returns c = outcomes_exist c.outcome_exists.ensures c.outcome_exists-2.ensures c.outcome_exists-3.ensures
