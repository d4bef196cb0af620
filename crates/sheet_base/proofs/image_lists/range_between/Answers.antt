-- Answers to the goals of `range_between` in src/image_lists.rt.
use Rattle.sheet_base.specs.ImageFits.{run_begin}
use Rattle.sheet_base.proofs.PositionLists.{paired_upto}
use Rattle.sheet_base.proofs.image_lists.range_between.Goals as goal

pub returns-clause-part : goal.returns-clause-part
returns-clause-part c =
    let images = c.args.images.now in
    rw (c.min-end.ensures, c.run_begin.ensures, c.points.ensures, c.run_begin-2.ensures)
    (paired_upto images.points images.heights (run_begin images c.args.first) (run_begin images c.args.past))
