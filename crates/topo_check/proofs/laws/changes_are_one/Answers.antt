-- The proof of the law `changes_are_one` in src/laws.rt.
use Rattle.topo_check.proofs.OneList.{changes_are_one}
use Rattle.topo_check.proofs.laws.changes_are_one.Goals as goal

pub returns : goal.returns
returns c = changes_are_one
