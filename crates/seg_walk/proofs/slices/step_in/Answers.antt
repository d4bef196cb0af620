-- Answers to the goals of `step_in` in src/slices.rt.
use Rattle.tin_base.proofs.TriangleLemmas.TestAnswers.{told, denied}
use Rattle.tin_base.specs.Slices.{IsSliceIn}
use Rattle.tin_base.proofs.SegmentSpots.SlicedParts.{params, part_told, not_begun}
use Rattle.seg_walk.proofs.FirstTriangles.{not_missed}
use Rattle.tin_base.proofs.SegmentSpots.Params.{same_spot}
use Rattle.plain_laws.proofs.Options.{some_told, none_told}
use Rattle.seg_walk.proofs.slices.step_in.Goals as goal

pub returns-then-goes_on_from-clause-some : goal.returns-then-goes_on_from-clause-some
returns-then-goes_on_from-clause-some c =
    let goes = told c.if-goes_on_from.ensures in
    let tells = some_told (λ s. IsSliceIn c.args.tin.now c.args.a c.args.b c.args.triangle s) c.slice_in.result
    c.in-Some.slice c.in-Some.is c.slice_in.ensures.some in
    let ends = params c.args.tin.now c.args.a c.args.b c.args.triangle c.in-Some.slice c.requires.limits
    c.requires.in_range tells in
    record {
      slice = tells;
      part = part_told c.args.tin.now c.args.a c.args.b c.args.triangle c.in-Some.slice c.requires.limits
          c.requires.in_range tells goes.1;
      begins = same_spot c.in-Some.slice.lo c.args.at ends.lo c.requires.param goes.0;
    }

pub returns-else-goes_on_from-clause-none : goal.returns-else-goes_on_from-clause-none
returns-else-goes_on_from-clause-none c =
    λ first last p begins.
    not_begun c.args.tin.now c.args.a c.args.b c.args.triangle c.in-Some.slice c.args.at first last c.requires.limits
    c.requires.in_range
    (some_told (λ s. IsSliceIn c.args.tin.now c.args.a c.args.b c.args.triangle s) c.slice_in.result c.in-Some.slice
    c.in-Some.is c.slice_in.ensures.some) c.requires.param (denied c.if-goes_on_from.ensures) p begins

pub returns-in_default-clause-none : goal.returns-in_default-clause-none
returns-in_default-clause-none c =
    λ first last p begins. not_missed c.args.tin.now c.args.a c.args.b c.args.triangle first c.requires.limits
    c.requires.in_range (none_told _ c.slice_in.result c.in_default.is c.slice_in.ensures.none) p.has_first
