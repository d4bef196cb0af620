-- Answers to the goals of `meets_side` in src/triangle_fits.rt.
use Rattle.tin_check.proofs.TriangleTests.BySlice.{slice_tells}
use Rattle.tin_check.proofs.triangle_fits.meets_side.Goals as goal

pub returns : goal.returns
returns c = slice_tells c.args.p c.args.q c.args.t.now c.slice.result c.is_some.result c.slice.ensures.common
    c.is_some.ensures
