-- Answers to the goals of `around_sides` in src/side_trees.rt.
use Rattle.std.proofs.Common.{◌<◌, ◌+◌, length, refl, subst, sym, arith}
use Rattle.plane_base.specs.declared.shapes.Rect.{Rect}
use Rattle.tin_check.specs.InsideSideTrees.{IsAround}
use Rattle.tin_check.proofs.BorderLemmas.SideTrees.{side_around, joined_around}
use Rattle.tin_check.proofs.side_trees.around_sides.Goals as goal

pub loop-number-init : goal.loop-number-init
loop-number-init c =
    let within : c.args.first < length c.args.sides.now = omega (arith, c.requires.some, c.requires.within) in
    side_around c.args.tin.now c.args.frame c.args.sides.now c.args.first (c.args.first + 1) c.side_box-around.result
    c.side_box-around.ensures.limits c.requires.sides within refl c.side_box-around.ensures.around

pub loop-number-preserved : goal.loop-number-preserved
loop-number-preserved c =
    let within : c.loop-number.number < length c.args.sides.now =
    omega (arith, c.loop-number-test.true, c.requires.within) in
    subst (λ (box : Rect). IsAround c.args.tin.now c.args.frame c.args.sides.now c.args.first (c.loop-number.number + 1)
    box) (sym c.with_box-around.ensures)
    (joined_around c.args.tin.now c.args.frame c.args.sides.now c.args.first c.loop-number.number
    (c.loop-number.number + 1) c.loop-number.around c.side_box.result c.loop-number.invariant
    (side_around c.args.tin.now c.args.frame c.args.sides.now c.loop-number.number (c.loop-number.number + 1)
    c.side_box.result c.side_box.ensures.limits c.requires.sides within refl c.side_box.ensures.around))
