-- The proof of the law `boxes_share_a_point_or_are_apart` in src/laws.rt.
use Rattle.plane_base.proofs.Bounds.BoxLemmas.{share_or_apart}
use Rattle.plane_base.proofs.laws.boxes_share_a_point_or_are_apart.Goals as goal

pub returns : goal.returns
returns c = share_or_apart
