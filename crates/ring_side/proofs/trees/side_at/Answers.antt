-- Answers to the goals of `side_at` in src/trees.rt.
use Rattle.std.proofs.Common.{◌<◌, arith, refl, length}
use Rattle.ring_side.specs.InsideTrees.{node_at}
use Rattle.ring_side.proofs.RingBoxes.RingParts.{node_told, near_part, near_from, near_point, near_before}
use Rattle.ring_side.proofs.trees.side_at.Goals as goal

pub returns-in-Some-clause-told : goal.returns-in-Some-clause-told
returns-in-Some-clause-told c =
    let node = c.requires.nodes c.args.place c.requires.place in
    node_told c.args.ring.now (node_at c.args.nodes.now c.args.place) c.before-from.result _ c.args.p c.side_by_box.result
    c.in-Some.side c.before-from.ensures refl node.some node.within node.around c.in-Some.is c.side_by_box.ensures

pub side_along-requires-clause-near : goal.side_along-requires-clause-near
side_along-requires-clause-near c =
    let node = node_at c.args.nodes.now c.args.place in
    near_part c.args.ring.now c.between.result.now node.first node.past c.between.ensures c.requires.near

pub side_along-requires-clause-near_from : goal.side_along-requires-clause-near_from
side_along-requires-clause-near_from c =
    let node = node_at c.args.nodes.now c.args.place in
    let is = c.requires.nodes c.args.place c.requires.place in
    let some = is.some in let within = is.within in
    let first : node.first < length c.args.ring.now = omega arith in
    near_from c.args.ring.now c.between.result.now node.first node.past c.before-from.result c.between.ensures
    c.before-from.ensures first c.requires.near

pub side_along-requires-clause-near_point : goal.side_along-requires-clause-near_point
side_along-requires-clause-near_point c =
    let node = node_at c.args.nodes.now c.args.place in
    near_point c.args.ring.now c.between.result.now node.first node.past c.args.p c.between.ensures c.requires.near_point

pub side_along-requires-clause-from : goal.side_along-requires-clause-from
side_along-requires-clause-from c =
    let node = node_at c.args.nodes.now c.args.place in
    let is = c.requires.nodes c.args.place c.requires.place in
    let some = is.some in let within = is.within in
    let first : node.first < length c.args.ring.now = omega arith in
    near_before c.args.ring.now node.first c.before-from.result c.args.p c.before-from.ensures first c.requires.near_point
