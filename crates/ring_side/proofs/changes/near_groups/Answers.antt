-- Answers to the goals of `near_groups` in src/changes.rt.
use Rattle.std.proofs.Common.{◌≡◌, arith, ap, subst}
use Rattle.ring_side.specs.InsideClusters.{past_before}
use Rattle.ring_side.specs.InsideNear.{AreSifted}
use Rattle.ring_side.proofs.PointGroups.Sifted.{skip_cluster, enter_cluster, leave_cluster, corners_of, candidates_of}
use Rattle.ring_side.proofs.changes.near_groups.Goals as goal

pub has_one_side-requires-clause-source : goal.has_one_side-requires-clause-source
has_one_side-requires-clause-source c = grind (arith, corners_of)

pub has_one_side-requires-clause-target : goal.has_one_side-requires-clause-target
has_one_side-requires-clause-target c = grind (arith, corners_of)

pub loop-left-preserved-then-has_one_side : goal.loop-left-preserved-then-has_one_side
loop-left-preserved-then-has_one_side c =
    skip_cluster c.args.ring.now c.args.places.now c.loop-left.numbers.items c.loop-left.left c.index-cluster.result.now
    c.loop-left-test.true c.loop-left.invariant.0 c.index-cluster.ensures c.requires.clusters
    (c.has_one_side.ensures c.if-has_one_side.true) c.loop-left.invariant.1

pub loop-left-preserved-then-cluster-left : goal.loop-left-preserved-then-cluster-left
loop-left-preserved-then-cluster-left c = grind (arith, enter_cluster)

pub loop-left-preserved : goal.loop-left-preserved
loop-left-preserved c =
    leave_cluster c.args.ring.now c.args.places.now c.add_near.new.numbers.items c.loop-left.left c.index-cluster.result.now
    c.loop-left-test.true c.loop-left.invariant.0 c.index-cluster.ensures c.requires.clusters c.in_ok-add_near.ensures

pub returns : goal.returns
returns c =
    let past = c.loop-left-test.false in
    let e : c.loop-left.left ≡ 0 = omega arith in
    candidates_of c.args.ring.now c.args.places.now c.loop-left.numbers.items c.sort_once.new.numbers.items
    (subst (AreSifted c.args.ring.now c.args.places.now c.loop-left.numbers.items) (ap (past_before c.args.places.now.clusters.items) e)
    c.loop-left.invariant.1)
    c.sort_once.ensures.ascending c.sort_once.ensures.same
