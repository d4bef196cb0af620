-- The proof of the law `half_up_is_nearest` in src/laws.rt.
use Rattle.frac128.proofs.Nearest.{half_up_is_nearest}
use Rattle.frac128.proofs.laws.half_up_is_nearest.Goals as goal

pub returns : goal.returns
returns c = half_up_is_nearest
