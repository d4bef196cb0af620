-- Answers to the goals of `nearest_end_exists` in src/laws.rt.
use Rattle.seg_gap.proofs.NearestEnds.{nearest_end_exists}
use Rattle.seg_gap.proofs.laws.nearest_end_exists.Goals as goal

pub returns : goal.returns
returns c = nearest_end_exists
