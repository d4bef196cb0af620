-- Answers to the goals of `meet_at_side` in src/triangle_fits.rt.
use Rattle.tin_check.proofs.TriangleTests.Tests.{side_tells}
use Rattle.tin_check.proofs.triangle_fits.meet_at_side.Goals as goal

pub returns : goal.returns
returns c =
    side_tells c.args.t.now c.args.u.now c.is_same.result c.requires.t_positive c.requires.u_positive c.requires.second
    c.requires.first c.is_same.ensures
