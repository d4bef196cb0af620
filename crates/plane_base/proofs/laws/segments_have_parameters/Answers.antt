-- The proof of the law `segments_have_parameters` in src/laws.rt.
use Rattle.plane_base.proofs.MixLaws.Parameters.{segments_have_parameters}
use Rattle.plane_base.proofs.laws.segments_have_parameters.Goals as goal

pub returns : goal.returns
returns c = segments_have_parameters
