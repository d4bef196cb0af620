-- Answers to the goals of `fit_at_side` in src/triangle_fits.rt.
use Rattle.std.proofs.Common.{[], ◌∷◌}
use Rattle.plane_base.specs.Plane.{whole}
use Rattle.tin_check.proofs.TriangleTests.CornerShifts.{counted_same, second_meet, through}
use Rattle.tin_check.proofs.triangle_fits.fit_at_side.Goals as goal

pub meet_at_side-requires-clause-u_positive : goal.meet_at_side-requires-clause-u_positive
meet_at_side-requires-clause-u_positive c = let same =
    counted_same c.args.u.now c.counted_from.result c.counted_from.ensures.counted in same.positive
    c.requires.u_positive

pub returns : goal.returns
returns c = through c.meet_at_side.ensures
    (second_meet c.args.t.now c.args.u.now c.counted_from.result (whole c.args.t.now.a ∷ whole c.args.t.now.b ∷ [])
    c.counted_from.ensures.counted)
