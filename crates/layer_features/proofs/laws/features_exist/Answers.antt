-- The proof of the law `features_exist` in src/laws.rt.
use Rattle.layer_features.proofs.OneList.{features_exist}
use Rattle.layer_features.proofs.laws.features_exist.Goals as goal

pub returns : goal.returns
returns c = features_exist
