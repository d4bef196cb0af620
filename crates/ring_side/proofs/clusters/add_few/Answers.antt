-- Answers to the goals of `add_few` in src/clusters.rt.
use Rattle.std.proofs.Common.{◌∙◌, List, sym, subst, refl}
use Rattle.ring_side.specs.declared.clusters.Cluster.{Cluster}
use Rattle.ring_side.specs.InsideClusters.{AreClustersUpTo}
use Rattle.ring_side.proofs.PointGroups.ClusterLemmas.{few_cluster}
use Rattle.ring_side.proofs.clusters.add_few.Goals as goal

pub returns : goal.returns
returns c =
    subst (λ (clusters : List Cluster). AreClustersUpTo c.args.order.now c.args.source.now c.args.target.now clusters c.args.past)
    (sym c.in_ok-push.ensures.items)
    (few_cluster c.args.order.now c.args.source.now c.args.target.now c.args.clusters.now.items _ c.args.first c.args.past
    c.requires.clusters (c.len-base.ensures ∙ c.args.clusters.now.ok.0) refl refl c.requires.some c.requires.within
    c.around_few.ensures c.around_few-2.ensures)
