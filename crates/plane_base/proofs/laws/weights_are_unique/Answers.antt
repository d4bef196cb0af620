-- The proof of the law `weights_are_unique` in src/laws.rt.
use Rattle.plane_base.proofs.MixLaws.Proportions.{weights_are_unique}
use Rattle.plane_base.proofs.laws.weights_are_unique.Goals as goal

pub returns : goal.returns
returns c = weights_are_unique
