-- Answers to the goals of `add_joined` in src/clusters.rt.
use Rattle.std.proofs.Common.{◌∙◌, arith, refl}
use Rattle.ring_side.proofs.PointGroups.ClusterLemmas.{joined_as, high_as}
use Rattle.ring_side.proofs.clusters.add_joined.Goals as goal

pub index-requires-in-loop-count : goal.index-requires-in-loop-count
index-requires-in-loop-count c = grind (arith, high_as)

pub loop-count-preserved : goal.loop-count-preserved
loop-count-preserved c =
    let len = c.len.ensures in
    let long = c.loop-count.clusters.ok.0 in
    let more = c.if-high-eq0.false in
    joined_as c.args.clusters.now.items c.loop-count.clusters.items c.push.new.self.items c.len.result c.index.result.now
    c.index-in-loop-count.result.now _ (len ∙ long) c.loop-count.invariant.0 (omega arith) c.loop-count.invariant.1 c.index.ensures
    c.index-in-loop-count.ensures c.with_box.ensures c.with_box-in-loop-count.ensures refl refl refl c.in_ok-push.ensures.items
    c.loop-count.invariant.2
