-- The proof of the law `relations_are_exclusive` in src/laws.rt.
use Rattle.meet_rel.proofs.Exclusive.{relations_are_exclusive}
use Rattle.meet_rel.proofs.laws.relations_are_exclusive.Goals as goal

pub returns : goal.returns
returns c = relations_are_exclusive
