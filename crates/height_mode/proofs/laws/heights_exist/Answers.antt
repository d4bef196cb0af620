-- The proof of the law `heights_exist` in src/laws.rt.
use Rattle.height_mode.proofs.SomeHeights.{heights_exist}
use Rattle.height_mode.proofs.laws.heights_exist.Goals as goal

pub returns : goal.returns
returns c = heights_exist c.tall_outcome_exists.ensures c.outcome_exists.ensures c.raised_exist.ensures
