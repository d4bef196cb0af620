-- The proof of the law `mixes_of_mixes_are_mixes` in src/laws.rt.
use Rattle.plane_base.proofs.MixLaws.Mixes.{mixes_mix}
use Rattle.plane_base.proofs.laws.mixes_of_mixes_are_mixes.Goals as goal

pub returns : goal.returns
returns c = mixes_mix
