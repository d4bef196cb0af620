-- The proof of the law `features_are_one` in src/laws.rt.
use Rattle.layer_features.proofs.OneList.{features_one}
use Rattle.layer_features.proofs.laws.features_are_one.Goals as goal

pub returns : goal.returns
returns c = features_one c.value_is_one.ensures.value c.value_is_one.ensures.place
