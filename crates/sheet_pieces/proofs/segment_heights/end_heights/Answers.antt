-- Answers to the goals of `end_heights` in src/segment_heights.rt.
use Rattle.std.proofs.Common.{sym, subst}
use Rattle.sheet_base.specs.PointHeights.{IsHeightWithinReach}
use Rattle.sheet_pieces.proofs.RunReach.{reach_in}
use Rattle.sheet_pieces.proofs.segment_heights.end_heights.Goals as goal

pub returns-clause-from : goal.returns-clause-from
returns-clause-from c = subst IsHeightWithinReach (sym c.at-from.ensures)
    (reach_in c.args.heights.now c.requires.reach _)

pub returns-clause-to : goal.returns-clause-to
returns-clause-to c = subst IsHeightWithinReach (sym c.at-to.ensures)
    (reach_in c.args.heights.now c.requires.reach _)
