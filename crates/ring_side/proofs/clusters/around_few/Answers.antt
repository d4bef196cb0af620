-- Answers to the goals of `around_few` in src/clusters.rt.
use Rattle.std.proofs.Common.{◌+◌, arith, refl}
use Rattle.ring_side.proofs.PointGroups.ClusterLemmas.{least_of_one_box, least_of_next_box}
use Rattle.ring_side.proofs.clusters.around_few.Goals as goal

pub loop-place-init : goal.loop-place-init
loop-place-init c = (omega arith, omega arith, least_of_one_box _ c.args.order.now c.args.boxes.now c.args.first (c.args.first + 1) refl refl)

pub loop-place-preserved : goal.loop-place-preserved
loop-place-preserved c =
    let low = c.loop-place.invariant.0 in (
      omega arith,
      omega arith,
      least_of_next_box c.loop-place.around c.with_box-around.result _ c.args.order.now c.args.boxes.now c.args.first c.loop-place.place
          (c.loop-place.place + 1) (omega arith) refl c.with_box-around.ensures refl c.loop-place.invariant.2,
    )
