-- The proof of the law `relation_exists` in src/laws.rt.
use Rattle.topo_check.proofs.SegmentRelations.{each_relation}
use Rattle.topo_check.proofs.laws.relation_exists.Goals as goal

pub returns : goal.returns
returns c = each_relation
