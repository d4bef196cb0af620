-- The proof of the law `copies_are_values` in src/laws.rt.
use Rattle.layer_features.proofs.CopiedParts.{copies_values}
use Rattle.layer_features.proofs.laws.copies_are_values.Goals as goal

pub returns : goal.returns
returns c = copies_values
