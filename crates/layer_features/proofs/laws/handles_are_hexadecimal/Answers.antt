-- The proof of the law `handles_are_hexadecimal` in src/laws.rt.
use Rattle.layer_features.proofs.DrawingLines.{handles_hexadecimal}
use Rattle.layer_features.proofs.laws.handles_are_hexadecimal.Goals as goal

pub returns : goal.returns
returns c = handles_hexadecimal
