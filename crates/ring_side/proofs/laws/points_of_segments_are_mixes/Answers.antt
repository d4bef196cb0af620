-- The answer to the goal of `points_of_segments_are_mixes` in src/laws.rt.
use Rattle.ring_side.proofs.PointSides.OnSegments.{points_of_segments_are_mixes}
use Rattle.ring_side.proofs.laws.points_of_segments_are_mixes.Goals as goal

pub returns : goal.returns
returns c = points_of_segments_are_mixes
