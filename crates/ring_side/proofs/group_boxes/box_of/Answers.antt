-- Answers to the goals of `box_of` in src/group_boxes.rt.
use Rattle.std.proofs.Common.{refl, arith}
use Rattle.ring_side.specs.SideChanges.{place_of}
use Rattle.ring_side.proofs.PointGroups.GroupSpots.{box_of_first, box_of_spot, box_of_all, among_first, among_spot, among_all}
use Rattle.ring_side.proofs.group_boxes.box_of.Goals as goal

pub loop-spot-init : goal.loop-spot-init
loop-spot-init c = (
  refl,
  refl,
  omega arith,
  c.requires.group.some,
  box_of_first (place_of c.args.sheets.now c.args.images.now c.args.frame) c.of_point-around.result c.args.group.layer
      c.args.group.path c.args.group.first c.place_of.result c.of_point-around.ensures c.place_of.ensures.place,
  among_first c.args.sheets.now c.args.images.now c.args.frame c.args.group.layer c.args.group.path c.args.group.first c.place_of.ensures.among,
)

pub loop-spot-preserved : goal.loop-spot-preserved
loop-spot-preserved c =
    let is = c.loop-spot.invariant in let low = is.2 in (
      is.0,
      is.1,
      omega arith,
      c.loop-spot-test.true,
      box_of_spot (place_of c.args.sheets.now c.args.images.now c.args.frame) c.loop-spot.around c.with_point-around.result
          c.loop-spot.spot c.args.group.layer c.args.group.path c.args.group.first c.place_of-in-loop-spot.result is.0 is.1 low
          c.with_point-around.ensures c.place_of-in-loop-spot.ensures.place is.4,
      among_spot c.args.sheets.now c.args.images.now c.args.frame c.loop-spot.spot c.args.group.layer c.args.group.path c.args.group.first is.0 is.1 low c.place_of-in-loop-spot.ensures.among is.5,
    )

pub returns-clause-least : goal.returns-clause-least
returns-clause-least c =
    let is = c.loop-spot.invariant in
    box_of_all (place_of c.args.sheets.now c.args.images.now c.args.frame) c.loop-spot.around c.args.group.layer c.args.group.path
    c.args.group.first c.args.group.past c.loop-spot.spot.vertex is.3 c.loop-spot-test.false is.4

pub returns-clause-among : goal.returns-clause-among
returns-clause-among c =
    let is = c.loop-spot.invariant in
    among_all c.args.sheets.now c.args.images.now c.args.frame c.args.group.layer c.args.group.path c.args.group.first
    c.args.group.past c.loop-spot.spot.vertex is.3 c.loop-spot-test.false is.5
