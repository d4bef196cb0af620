-- Answers to the goals of `around_triangles` in src/border_fits.rt.
use Rattle.tin_check.proofs.BorderLemmas.SideTrees.{first_in, joined_in}
use Rattle.tin_check.proofs.border_fits.around_triangles.Goals as goal

pub loop-triangle-init : goal.loop-triangle-init
loop-triangle-init c =
    first_in c.args.tin.now c.args.frame c.args.first c.box_in-around.result c.box_in-around.ensures

pub loop-triangle-preserved : goal.loop-triangle-preserved
loop-triangle-preserved c =
    joined_in c.args.tin.now c.args.frame c.args.first c.loop-triangle.triangle c.loop-triangle.around c.box_in.result
    c.with_box-around.result c.loop-triangle.invariant c.box_in.ensures c.with_box-around.ensures
