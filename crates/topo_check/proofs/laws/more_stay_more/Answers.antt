-- The proof of the law `more_stay_more` in src/laws.rt.
use Rattle.topo_check.proofs.OneList.{more_stay_more}
use Rattle.topo_check.proofs.laws.more_stay_more.Goals as goal

pub returns : goal.returns
returns c = more_stay_more
