-- Answers to the goals of `gap_exists` in src/laws.rt.
use Rattle.seg_gap.proofs.SomeGap.{gap_exists}
use Rattle.seg_gap.proofs.laws.gap_exists.Goals as goal

pub returns : goal.returns
returns c = gap_exists
