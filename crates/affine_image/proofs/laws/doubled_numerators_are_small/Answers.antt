-- The proof of the law `doubled_numerators_are_small` in src/laws.rt.
use Rattle.affine_image.proofs.Sizes.{doubled_numerators_are_small}
use Rattle.affine_image.proofs.laws.doubled_numerators_are_small.Goals as goal

pub returns : goal.returns
returns c = doubled_numerators_are_small
