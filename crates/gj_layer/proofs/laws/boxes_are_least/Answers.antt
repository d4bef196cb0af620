-- The proof of the law `boxes_are_least` in src/laws.rt.
use Rattle.gj_layer.proofs.WrittenPaths.BoxLemmas.{boxes_are_least}
use Rattle.gj_layer.proofs.laws.boxes_are_least.Goals as goal

pub returns : goal.returns
returns c = boxes_are_least
