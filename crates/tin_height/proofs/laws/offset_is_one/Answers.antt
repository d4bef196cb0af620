-- Answers to the goals of `offset_is_one` in src/laws.rt.
use Rattle.tin_height.proofs.OffsetLemmas.{offset_is_one}
use Rattle.tin_height.proofs.laws.offset_is_one.Goals as goal

pub returns : goal.returns
returns c = offset_is_one
