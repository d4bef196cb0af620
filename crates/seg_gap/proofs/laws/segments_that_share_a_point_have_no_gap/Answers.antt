-- Answers to the goals of `segments_that_share_a_point_have_no_gap` in src/laws.rt.
use Rattle.seg_gap.proofs.GapLaws.{no_gap}
use Rattle.seg_gap.proofs.laws.segments_that_share_a_point_have_no_gap.Goals as goal

pub returns : goal.returns
returns c = no_gap
