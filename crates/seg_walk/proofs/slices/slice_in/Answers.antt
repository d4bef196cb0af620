-- Answers to the goals of `slice_in` in src/slices.rt.
use Rattle.tin_base.proofs.SegmentSpots.SlicedParts.{slice_told}
use Rattle.seg_walk.proofs.NearCorners.{near_each, near_triangle, near_both}
use Rattle.seg_walk.proofs.slices.slice_in.Goals as goal

pub slice-requires-clause-near_a : goal.slice-requires-clause-near_a
slice-requires-clause-near_a c =
    near_triangle c.args.tin.now c.args.triangle c.tri.result c.args.a c.requires.limits c.requires.in_range
    c.tri.ensures.corners (near_each c.args.tin.now c.args.a c.requires.limits c.requires.has_a)

pub slice-requires-clause-near_b : goal.slice-requires-clause-near_b
slice-requires-clause-near_b c = near_triangle c.args.tin.now c.args.triangle c.tri.result c.args.b c.requires.limits
    c.requires.in_range c.tri.ensures.corners c.requires.near_b

pub slice-requires-clause-near_ab : goal.slice-requires-clause-near_ab
slice-requires-clause-near_ab c = near_both c.args.tin.now c.args.a c.args.b c.requires.limits c.requires.has_a
    c.requires.near_b

pub returns-clause-some : goal.returns-clause-some
returns-clause-some c = slice_told c.args.tin.now c.args.a c.args.b c.tri.result c.args.triangle c.slice.result
    c.tri.ensures.corners c.slice.ensures.common c.slice.ensures.ends c.slice.ensures.point
