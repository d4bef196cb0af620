-- Answers to the goals of `fits` in src/triangle_fits.rt.
use Rattle.std.proofs.Common.{[], ◌∷◌, arith}
use Rattle.plane_base.specs.Plane.{whole}
use Rattle.tin_check.specs.Marks.{points_of, marked_of}
use Rattle.tin_check.proofs.TriangleTests.CornerShifts.{counted_same, first_near, first_meet, through, common_among, corner_among}
use Rattle.tin_check.proofs.TriangleTests.CornerShifts.{side_first_among, side_second_among, fits_by, fits_at_side}
use Rattle.tin_check.proofs.triangle_fits.fits.Goals as goal

pub fit_at_corner-requires-clause-near : goal.fit_at_corner-requires-clause-near
fit_at_corner-requires-clause-near c = first_near c.args.t.now c.in-Corner.from_corner c.args.u.now
    c.in-Corner.ensures.0 c.requires.near

pub fit_at_corner-requires-clause-t_positive : goal.fit_at_corner-requires-clause-t_positive
fit_at_corner-requires-clause-t_positive c = let same =
    counted_same c.args.t.now c.in-Corner.from_corner c.in-Corner.ensures.0 in same.positive c.requires.t_positive

pub fit_at_corner-requires-clause-common : goal.fit_at_corner-requires-clause-common
fit_at_corner-requires-clause-common c =
    let ps = marked_of c.args.common.of_t (points_of c.args.t.now) in
    common_among ps c.args.common.of_u c.args.u.now c.in-Corner.from_corner.a c.requires.same
    (corner_among ps c.in-Corner.from_corner.a c.in-Corner.ensures.1)

pub fit_at_side-requires-clause-t_positive : goal.fit_at_side-requires-clause-t_positive
fit_at_side-requires-clause-t_positive c = let same =
    counted_same c.args.t.now c.in-Side.from_side c.in-Side.ensures.0 in same.positive c.requires.t_positive

pub fit_at_side-requires-clause-first : goal.fit_at_side-requires-clause-first
fit_at_side-requires-clause-first c =
    let ps = marked_of c.args.common.of_t (points_of c.args.t.now) in
    common_among ps c.args.common.of_u c.args.u.now c.in-Side.from_side.a c.requires.same
    (side_first_among ps c.in-Side.from_side c.in-Side.ensures.1)

pub fit_at_side-requires-clause-second : goal.fit_at_side-requires-clause-second
fit_at_side-requires-clause-second c =
    let ps = marked_of c.args.common.of_t (points_of c.args.t.now) in
    common_among ps c.args.common.of_u c.args.u.now c.in-Side.from_side.b c.requires.same
    (side_second_among ps c.in-Side.from_side c.in-Side.ensures.1)

pub returns-in-Corner : goal.returns-in-Corner
returns-in-Corner c =
    let r = c.in-Corner.from_corner in
    fits_by c.args.t.now c.args.u.now (marked_of c.args.common.of_t (points_of c.args.t.now)) (r.a ∷ [])
    c.fit_at_corner.result c.in-Corner.ensures.1 (omega arith)
    (through c.fit_at_corner.ensures (first_meet c.args.t.now r c.args.u.now (whole r.a ∷ []) c.in-Corner.ensures.0))

pub returns-in-Side : goal.returns-in-Side
returns-in-Side c =
    let r = c.in-Side.from_side in
    fits_at_side c.args.t.now c.args.u.now r (marked_of c.args.common.of_t (points_of c.args.t.now))
    c.fit_at_side.result c.in-Side.ensures.1
    (through c.fit_at_side.ensures (first_meet c.args.t.now r c.args.u.now (whole r.a ∷ whole r.b ∷ [])
    c.in-Side.ensures.0))
