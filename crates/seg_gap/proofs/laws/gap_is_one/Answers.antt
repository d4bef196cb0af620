-- Answers to the goals of `gap_is_one` in src/laws.rt.
use Rattle.seg_gap.proofs.GapLaws.{gap_is_one}
use Rattle.seg_gap.proofs.laws.gap_is_one.Goals as goal

pub returns : goal.returns
returns c = gap_is_one
