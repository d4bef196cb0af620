-- Answers to the goals of `add_group` in src/changes.rt.
use Rattle.std.proofs.Common.{◌≤◌, List, length, arith, ap}
use Rattle.std.specs.Prelude.{flat_map}
use Rattle.ring_side.specs.declared.kinds.Spot.{Spot}
use Rattle.ring_side.specs.declared.kinds.SideChange.{SideChange}
use Rattle.ring_side.specs.SideChanges.{point_change}
use Rattle.ring_side.proofs.ChangeLists.OnWay.{added_more, added_at_once, remain_as}
use Rattle.ring_side.proofs.PointGroups.GroupSpots.{spots_step}
use Rattle.ring_side.proofs.changes.add_group.Goals as goal

pub loop-vertex-preserved : goal.loop-vertex-preserved
loop-vertex-preserved c =
    let test = c.loop-vertex-test.true in
    let low = c.loop-vertex.invariant.0 in
    let len = c.len.ensures in
    let fits = c.if-len-most.true in
    let long = c.loop-vertex.changes.ok.0 in
    let few : length c.loop-vertex.changes.items ≤ c.args.most = omega (arith, len, fits, long) in
    let change : Spot → List SideChange =
    point_change c.args.sheets.now c.args.images.now c.args.ring.now.layer c.args.ring.now.path in
    let spot : Spot = record { layer = c.args.group.layer; path = c.args.group.path; vertex = c.loop-vertex.vertex } in (
      omega arith,
      omega arith,
      added_more c.args.most c.loop-vertex.changes.items c.add_point.new.changes.items (change spot) _ _ few
          (remain_as c.args.most c.loop-vertex.changes.items _ _ _
          (ap (flat_map change) (spots_step c.args.group.layer c.args.group.path c.loop-vertex.vertex c.args.group.past test))
          c.loop-vertex.invariant.2)
          (added_at_once c.args.most c.loop-vertex.changes.items c.add_point.new.changes.items (change spot) c.in_ok-add_point.ensures),
    )
