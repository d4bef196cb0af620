-- The proof of the law `weights_are_turns` in src/laws.rt.
use Rattle.plane_base.proofs.MixLaws.Proportions.{weights_are_turns}
use Rattle.plane_base.proofs.laws.weights_are_turns.Goals as goal

pub returns : goal.returns
returns c = weights_are_turns
