-- The proof of the law `segments_meet_in_intervals` in src/laws.rt.
use Rattle.plane_base.proofs.TriangleLaws.Intervals.{segments_meet_in_intervals}
use Rattle.plane_base.proofs.laws.segments_meet_in_intervals.Goals as goal

pub returns : goal.returns
returns c = segments_meet_in_intervals
