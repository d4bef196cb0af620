-- The proof of the law `drawing_features_are_one` in src/laws.rt.
use Rattle.layer_features.proofs.DrawingLines.{drawing_features_one}
use Rattle.layer_features.proofs.laws.drawing_features_are_one.Goals as goal

pub returns : goal.returns
returns c = drawing_features_one
