-- Answers to the goals of `gap_is_symmetric` in src/laws.rt.
use Rattle.seg_gap.proofs.GapLaws.{gap_is_symmetric}
use Rattle.seg_gap.proofs.laws.gap_is_symmetric.Goals as goal

pub returns : goal.returns
returns c = gap_is_symmetric
