-- The proof of the law `changes_are_by_rounding` in src/laws.rt.
use Rattle.topo_check.proofs.RoundedRelations.{changes_are_by_rounding}
use Rattle.topo_check.proofs.laws.changes_are_by_rounding.Goals as goal

pub returns : goal.returns
returns c = changes_are_by_rounding
