-- Answers to the goals of `layer_texts_are_one` in src/laws.rt.
use Rattle.layer_formats.proofs.LayerTextLaws.{texts_are_one}
use Rattle.layer_formats.proofs.laws.layer_texts_are_one.Goals as goal

pub returns : goal.returns
returns c = texts_are_one c.outcome_is_one.ensures c.outcome_is_one-2.ensures c.outcome_is_one-3.ensures
