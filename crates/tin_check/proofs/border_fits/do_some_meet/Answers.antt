-- Answers to the goals of `do_some_meet` in src/border_fits.rt.
use Rattle.std.proofs.Common.{refl, arith}
use Rattle.tin_check.specs.InsideSideTrees.{first_of, past_of}
use Rattle.tin_check.proofs.PairFits.InBoxes.{places_in}
use Rattle.tin_check.proofs.BorderLemmas.SideTrees.{far_meet, one_more_meets, fewer_meet}
use Rattle.tin_check.proofs.border_fits.do_some_meet.Goals as goal

pub returns-then-is_far : goal.returns-then-is_far
returns-then-is_far c = λ yes.
    far_meet c.args.tin.now c.args.frame c.args.sides.now c.around_triangles.result (first_of c.args.tree.now)
    (past_of c.args.tree.now) c.args.first c.args.past c.requires.limits c.requires.within c.around_triangles.ensures
    (c.if-is_far.ensures c.args.tin.now c.args.frame c.args.sides.now c.requires.tree refl)

pub meets_tree-requires-clause-own : goal.meets_tree-requires-clause-own
meets_tree-requires-clause-own c =
    places_in c.args.tin.now c.args.frame c.loop-triangle.triangle c.box_in-own.result c.box_in-own.ensures

pub loop-triangle-preserved : goal.loop-triangle-preserved
loop-triangle-preserved c =
    one_more_meets c.args.tin.now c.args.frame c.args.sides.now (first_of c.args.tree.now) (past_of c.args.tree.now)
    c.args.first c.loop-triangle.triangle c.loop-triangle.invariant (c.if-not-meets_tree.ensures refl)

pub returns : goal.returns
returns c = λ yes.
    fewer_meet c.args.tin.now c.args.frame c.args.sides.now (first_of c.args.tree.now) (past_of c.args.tree.now)
    c.args.first c.args.past c.loop-triangle.triangle (omega (arith, c.loop-triangle-test.false))
    c.loop-triangle.invariant
