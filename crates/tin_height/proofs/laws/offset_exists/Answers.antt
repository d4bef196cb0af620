-- Answers to the goals of `offset_exists` in src/laws.rt.
use Rattle.tin_height.proofs.OffsetLemmas.{offset_exists}
use Rattle.tin_height.proofs.laws.offset_exists.Goals as goal

pub returns : goal.returns
returns c = offset_exists
