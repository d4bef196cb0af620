-- Answers to the goals of `first_step` in src/walks.rt.
use Rattle.std.proofs.Common.{◌≡◌, refl, subst}
use Rattle.tin_base.specs.Limits.{IsWithinLimits}
use Rattle.tin_base.specs.Segments.{at_a}
use Rattle.tin_base.specs.Soundness.{IsSound}
use Rattle.tin_base.specs.Triangulation.{Triangulation}
use Rattle.tin_base.proofs.TriangleLemmas.TestAnswers.{told, denied}
use Rattle.tin_base.specs.Slices.{spot_of, IsSliceIn}
use Rattle.seg_walk.specs.InsideStarts.{MissesTriangle}
use Rattle.tin_base.proofs.SegmentSpots.SlicedParts.{params}
use Rattle.seg_walk.proofs.NextTriangles.{goes_same}
use Rattle.tin_base.proofs.SegmentSpots.Params.{spot_some}
use Rattle.seg_walk.proofs.Start.{first_not_missed, goes_on, ends_there, far_from_end, to_first, from_first_spot}
use Rattle.seg_walk.proofs.walks.first_step.Goals.{Else-is_below}
use Rattle.seg_walk.proofs.walks.first_step.Goals as goal

pub returns-in_default : goal.returns-in_default
returns-in_default c =
    absurd (first_not_missed c.args.index.now c.args.a c.args.b c.args.triangle
    (subst (λ (tin : Triangulation). IsWithinLimits tin) c.tin-tin.ensures c.show_soundness.ensures.limits)
    c.requires.in_range c.requires.has_point
    (subst (λ (tin : Triangulation). MissesTriangle tin c.args.a c.args.b c.args.triangle) c.tin-tin.ensures
    c.in_default.ensures.none))

pub returns-then-is_below : goal.returns-then-is_below
returns-then-is_below c =
    goes_on c.args.index.now c.args.a c.args.b c.args.triangle c.in-Some.slice _
    (subst (λ (tin : Triangulation). IsWithinLimits tin) c.tin-tin.ensures c.show_soundness.ensures.limits)
    (subst (λ (tin : Triangulation). IsSound tin) c.tin-tin.ensures c.show_soundness.ensures.sound) c.requires.in_range
    (subst (λ (tin : Triangulation). IsSliceIn tin c.args.a c.args.b c.args.triangle c.in-Some.slice) c.tin-tin.ensures
    c.in-Some.ensures.some) c.requires.has_point c.requires.least (told c.if-is_below.ensures) refl

-- the slice is the first point alone
none_of_b : (c : Else-is_below) → (spot_of c.in-Some.slice.hi).of_b ≡ 0
none_of_b c =
    ends_there c.args.index.now c.args.a c.args.b c.args.triangle c.in-Some.slice
    (subst (λ (tin : Triangulation). IsWithinLimits tin) c.tin-tin.ensures c.show_soundness.ensures.limits)
    c.requires.in_range
    (subst (λ (tin : Triangulation). IsSliceIn tin c.args.a c.args.b c.args.triangle c.in-Some.slice) c.tin-tin.ensures
    c.in-Some.ensures.some) c.requires.has_point (denied c.if-is_below.ensures)

pub step_after-requires-clause-before_end : goal.step_after-requires-clause-before_end
step_after-requires-clause-before_end c = far_from_end c.in-Some.slice.hi (none_of_b c)

pub returns : goal.returns
returns c =
    let told = subst (λ (tin : Triangulation). IsSliceIn tin c.args.a c.args.b c.args.triangle c.in-Some.slice)
    c.tin-tin.ensures c.in-Some.ensures.some in
    let limits = subst (λ (tin : Triangulation). IsWithinLimits tin) c.tin-tin.ensures c.show_soundness.ensures.limits in
    let ends = params c.args.index.now c.args.a c.args.b c.args.triangle c.in-Some.slice limits c.requires.in_range
    told in
    let none = ends_there c.args.index.now c.args.a c.args.b c.args.triangle c.in-Some.slice limits c.requires.in_range
    told c.requires.has_point (denied c.if-is_below.ensures) in
    goes_same c.args.index.now c.args.a c.args.b (spot_of c.in-Some.slice.hi) at_a c.step_after.result
    (λ f same. to_first (spot_of c.in-Some.slice.hi) f (spot_some c.in-Some.slice.hi ends.hi) none same)
    (λ f same. from_first_spot (spot_of c.in-Some.slice.hi) f none same) c.step_after.ensures
