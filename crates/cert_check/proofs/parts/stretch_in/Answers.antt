-- Answers to the goals of `stretch_in` in src/parts.rt.
use Rattle.tin_base.proofs.TriangleLemmas.NearTriangles.{ends_near, near_told}
use Rattle.tin_base.proofs.SegmentSpots.SlicedParts.{slice_told}
use Rattle.cert_check.proofs.Stretches.{none_shared, near_some}
use Rattle.cert_check.proofs.ListPasses.{refused}
use Rattle.cert_check.proofs.parts.stretch_in.Goals as goal

pub returns-then-not-are_near-clause-none : goal.returns-then-not-are_near-clause-none
returns-then-not-are_near-clause-none c =
    λ inside s h.
    refused c.are_near.result _ c.if-not-are_near.true c.are_near.ensures
    (ends_near c.args.tin.now c.args.a c.args.b c.args.triangle c.tri-corners.ensures.limits c.requires.in_range inside
    c.tri-corners.result c.tri-corners.ensures.corners)

pub returns-clause-some : goal.returns-clause-some
returns-clause-some c =
    slice_told c.args.tin.now c.args.a c.args.b c.tri-corners.result c.args.triangle c.slice.result
    c.tri-corners.ensures.corners c.slice.ensures.common c.slice.ensures.ends c.slice.ensures.point

pub returns-clause-near : goal.returns-clause-near
returns-clause-near c =
    near_some c.slice.result _ (near_told c.args.tin.now c.args.a c.args.b c.args.triangle c.tri-corners.result
    c.tri-corners.ensures.corners (c.are_near.ensures.0 c.if-not-are_near.false))

pub returns-clause-none : goal.returns-clause-none
returns-clause-none c = none_shared c.args.tin.now c.args.a c.args.b c.args.triangle c.tri-corners.result c.slice.result
    c.tri-corners.ensures.corners c.slice.ensures.common
