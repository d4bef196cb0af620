-- Answers to the goals of `meet_at_corner` in src/triangle_fits.rt.
use Rattle.std.proofs.Common.{refl}
use Rattle.tin_base.proofs.TriangleLemmas.TestAnswers.{no, denied}
use Rattle.tin_check.proofs.TriangleTests.Tests.{side_beyond, last_beyond}
use Rattle.tin_check.proofs.triangle_fits.meet_at_corner.Goals as goal

pub returns-then-meets_side : goal.returns-then-meets_side
returns-then-meets_side c = no (side_beyond c.args.t.now c.args.u.now c.requires.t_positive
    (c.if-meets_side.ensures.0 refl))

pub returns : goal.returns
returns c =
    last_beyond c.args.t.now c.args.u.now c.meets_side-2.result c.requires.same c.requires.t_positive
    c.requires.u_positive
    (denied c.if-meets_side.ensures) c.meets_side-2.ensures
