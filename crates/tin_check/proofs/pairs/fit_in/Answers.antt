-- Answers to the goals of `fit_in` in src/pairs.rt.
use Rattle.std.proofs.Common.{ℕ, [], refl, sym, subst, arith}
use Rattle.tin_base.specs.Triangulation.{numbers_of}
use Rattle.tin_check.specs.Marks.{points_of, marked_of}
use Rattle.tin_check.specs.InsideNumbers.{AreCounted}
use Rattle.tin_check.proofs.TriangleTests.CornerShifts.{fits_by}
use Rattle.tin_check.proofs.CallerLemmas.CornerMarks.{all_near, marks_read, same_read, told_read}
use Rattle.tin_check.proofs.PairFits.BySides.{side_tells_on, side_read}
use Rattle.tin_check.proofs.PairFits.ByCorner.{corner_read, from_read, from_counted, corner_tells}
use Rattle.tin_check.proofs.PairFits.ByNumbers.{none_read}
use Rattle.tin_base.proofs.TriangleLemmas.TestAnswers.{yes}
use Rattle.tin_check.proofs.pairs.fit_in.Goals as goal

pub are_apart-requires-clause-near : goal.are_apart-requires-clause-near
are_apart-requires-clause-near c = all_near c.args.tin.now c.args.frame c.args.t c.args.u c.tri.result
    c.tri-then-are_unmarked.result c.triangles-triangles.ensures.limits c.requires.t_in_range c.requires.u_in_range
    c.tri.ensures.corners c.tri-then-are_unmarked.ensures.corners

pub returns-then-are_unmarked : goal.returns-then-are_unmarked
returns-then-are_unmarked c =
    let tin = c.args.tin.now in
    let limits = c.triangles-triangles.ensures.limits in
    let same = marks_read tin c.triangles-triangles.result.now c.args.t c.args.u c.marks-of_t.result
    c.triangles-triangles.ensures.triangles c.marks-of_t.ensures in
    told_read tin c.args.frame c.args.t c.args.u c.tri.result c.tri-then-are_unmarked.result c.marks-of_t.result
    c.are_apart.result same c.tri.ensures.corners c.tri-then-are_unmarked.ensures.corners
    (fits_by c.tri.result c.tri-then-are_unmarked.result (marked_of c.marks-of_t.result (points_of c.tri.result)) []
    c.are_apart.result
    (none_read tin c.args.t c.args.u c.marks-of_t.result c.tri.result (limits.three c.args.t c.requires.t_in_range) same
    (c.if-are_unmarked.ensures refl))
    (omega arith) c.are_apart.ensures)

pub returns-in-Some-corners_from-2 : goal.returns-in-Some-corners_from-2
returns-in-Some-corners_from-2 c =
    let tin = c.args.tin.now in
    let rows = c.triangles-triangles.result.now in
    let is = c.triangles-triangles.ensures.triangles in
    let limits = c.triangles-triangles.ensures.limits in
    let side = c.in-Some-marked_side.side in
    let others = c.in-Some-corners_from-2.others in
    let from = from_read tin rows c.args.u side.to c.corners_from-in-Some-marked_side.result others is
    c.corners_from-in-Some-marked_side.ensures c.in-Some-corners_from-2.is in
    side_tells_on tin c.args.frame c.args.t c.args.u side.from side.to others.second others.third c.requires.t_positive
    c.requires.u_positive
    (side_read tin rows c.args.t c.args.u c.marks-of_t.result c.marked_side.result side is
    (limits.three c.args.t c.requires.t_in_range)
    (marks_read tin rows c.args.t c.args.u c.marks-of_t.result is c.marks-of_t.ensures) c.marked_side.ensures
    c.in-Some-marked_side.is)
    (subst (λ (n : ℕ). AreCounted (numbers_of tin c.args.u) n others.second others.third) (sym from.0)
    (from_counted (numbers_of tin c.args.u) side.to others.first others.second others.third
    (limits.three c.args.u c.requires.u_in_range) from))

pub fits-requires-clause-near : goal.fits-requires-clause-near
fits-requires-clause-near c = all_near c.args.tin.now c.args.frame c.args.t c.args.u c.tri-2.result c.tri-3.result
    c.triangles-triangles.ensures.limits c.requires.t_in_range c.requires.u_in_range c.tri-2.ensures.corners
    c.tri-3.ensures.corners

pub fits-requires-clause-same : goal.fits-requires-clause-same
fits-requires-clause-same c =
    let tin = c.args.tin.now in
    let rows = c.triangles-triangles.result.now in
    let is = c.triangles-triangles.ensures.triangles in
    same_read tin c.args.frame c.args.t c.args.u c.tri-2.result c.tri-3.result c.marks-of_t.result c.marks.result
    (marks_read tin rows c.args.t c.args.u c.marks-of_t.result is c.marks-of_t.ensures)
    (marks_read tin rows c.args.u c.args.t c.marks.result is c.marks.ensures)
    c.tri-2.ensures.corners c.tri-3.ensures.corners

pub returns : goal.returns
returns c =
    let tin = c.args.tin.now in
    told_read tin c.args.frame c.args.t c.args.u c.tri-2.result c.tri-3.result c.marks-of_t.result c.fits.result
    (marks_read tin c.triangles-triangles.result.now c.args.t c.args.u c.marks-of_t.result
    c.triangles-triangles.ensures.triangles c.marks-of_t.ensures)
    c.tri-2.ensures.corners c.tri-3.ensures.corners c.fits.ensures

pub part_at-requires-clause-t_counted : goal.part_at-requires-clause-t_counted
part_at-requires-clause-t_counted c =
    let tin = c.args.tin.now in
    let rows = c.triangles-triangles.result.now in
    let is = c.triangles-triangles.ensures.triangles in
    let limits = c.triangles-triangles.ensures.limits in
    let at =
    corner_read tin rows c.args.t c.args.u c.marks-of_t.result c.marked_corner.result c.in-Some.corners is
    (limits.three c.args.t c.requires.t_in_range)
    (marks_read tin rows c.args.t c.args.u c.marks-of_t.result is c.marks-of_t.ensures) c.marked_corner.ensures
    c.in-Some.is in
    at.counted

pub part_at-requires-clause-u_counted : goal.part_at-requires-clause-u_counted
part_at-requires-clause-u_counted c =
    let tin = c.args.tin.now in
    let rows = c.triangles-triangles.result.now in
    let limits = c.triangles-triangles.ensures.limits in
    let others = c.in-Some-corners_from.others in
    from_counted (numbers_of tin c.args.u) c.in-Some.corners.first others.first others.second others.third
    (limits.three c.args.u c.requires.u_in_range)
    (from_read tin rows c.args.u c.in-Some.corners.first c.corners_from.result others
    c.triangles-triangles.ensures.triangles c.corners_from.ensures c.in-Some-corners_from.is)

pub returns-then-part_at : goal.returns-then-part_at
returns-then-part_at c =
    let tin = c.args.tin.now in
    let rows = c.triangles-triangles.result.now in
    let is = c.triangles-triangles.ensures.triangles in
    let limits = c.triangles-triangles.ensures.limits in
    let corners = c.in-Some.corners in
    let others = c.in-Some-corners_from.others in
    yes (corner_tells tin c.args.frame c.args.t c.args.u corners.first corners.second corners.third others.first
    others.second others.third
    (corner_read tin rows c.args.t c.args.u c.marks-of_t.result c.marked_corner.result corners is
    (limits.three c.args.t c.requires.t_in_range)
    (marks_read tin rows c.args.t c.args.u c.marks-of_t.result is c.marks-of_t.ensures) c.marked_corner.ensures
    c.in-Some.is)
    (from_counted (numbers_of tin c.args.u) corners.first others.first others.second others.third
    (limits.three c.args.u c.requires.u_in_range)
    (from_read tin rows c.args.u corners.first c.corners_from.result others is c.corners_from.ensures
    c.in-Some-corners_from.is))
    (c.if-part_at.ensures refl))
