-- Answers to the goals of `place_of` in src/group_boxes.rt.
use Rattle.std.proofs.Common.{arith}
use Rattle.ring_side.proofs.PointGroups.Spots.{number_below, number_short, image_below, image_short, among_source, among_target}
use Rattle.ring_side.proofs.group_boxes.place_of.Goals as goal

pub overflow_add-number : goal.overflow_add-number
overflow_add-number c = grind (arith, number_short)

pub bounds-points-number : goal.bounds-points-number
bounds-points-number c = grind (arith, number_below)

pub bounds-points-run_begin : goal.bounds-points-run_begin
bounds-points-run_begin c = grind (arith, image_below)

pub offset_bounds-points-run_begin : goal.offset_bounds-points-run_begin
offset_bounds-points-run_begin c = grind (arith, image_short)

pub returns-in-Source-clause-among : goal.returns-in-Source-clause-among
returns-in-Source-clause-among c =
    among_source c.args.sheets.now c.args.images.now c.args.frame c.args.spot c.index-sheets-spot.result c.in-Source.is
    c.index-sheets-spot.is c.paths.ensures.sheet c.requires.spot

pub returns-in-Target-clause-among : goal.returns-in-Target-clause-among
returns-in-Target-clause-among c = grind (arith, among_target)
