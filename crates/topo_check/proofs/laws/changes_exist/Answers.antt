-- The proof of the law `changes_exist` in src/laws.rt.
use Rattle.topo_check.proofs.SomeChanges.{changes_exist}
use Rattle.topo_check.proofs.laws.changes_exist.Goals as goal

pub returns : goal.returns
returns c = changes_exist
