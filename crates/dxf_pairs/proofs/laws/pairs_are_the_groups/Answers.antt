-- The proof of the law `pairs_are_the_groups` in src/laws.rt.
use Rattle.dxf_pairs.proofs.LinePlaces.{the_groups}
use Rattle.dxf_pairs.proofs.laws.pairs_are_the_groups.Goals as goal

pub returns : goal.returns
returns c = the_groups
